-- The first message that comes down fits the client's state.
--     first-fits      an answer is awaited, and what is no answer comes to an established client
use Rattle.std.proofs.Common.{◌≡◌, ℕ, ◌+◌, ◌<◌, ◌≤◌, ◌^◌, Bool, true, false, not, ◌&&◌, ◌||◌, cond, List, [], ◌∷◌, ◌++◌, map, Option, Some, None, sym, ap, subst, refl, true≢false, arith}
use Rattle.std.specs.Prelude.{IsTrue, find, flat_map, option_to_list, nat_le, ◌==◌}
use Rattle.std.specs.List.{list_any, AllByRecursion}
use Rattle.std.proofs.lemmas.Bool.{and_parts, eqb-true, eq-eqb, leb-true}
use Rattle.pushserver.specs.PlainHubs.{Session, Made, Hub}
use Rattle.pushclient.specs.Clients.{Client, Connection, Wish, RequestState, not_asked, unanswered, refused, answered}
use Rattle.pushclient.specs.ServerMessages.{ServerMessage, accepts, refuses, grants, tells, delays}
use Rattle.pushclient.specs.FittingMessages.{Fits, IsAwaited}
use Rattle.pushclient.specs.SoundClients.{count_of}
use Rattle.pushclient.specs.Steps.{is_unanswered, request_of}
use Rattle.inflight.specs.Messages.{ClientMessage, Flying, is_refusal, answer_comes_first}
use Rattle.inflight.specs.Ends.{BothEnds, ends_of, is_id, unanswered_id, used_ids, fits_request}
use Rattle.inflight.specs.Flight.{FitsTogether}
use Rattle.flight_laws.specs.Laws.{FirstMessagesFit}
use Rattle.flight_laws.proofs.Counting.{count-unanswered, count-used}
use Rattle.flight_laws.proofs.Taking.{count-cons, itself, is-out}

-- ---- the wish that waits

-- one that waits and passes a test is found by its ID
pub one-waits : (id : ℕ) (p : Wish → Bool) (ws : List Wish) → list_any (λ w. is_unanswered id w.standing && p w) ws ≡ true → (w : Wish) × (find (λ w. is_unanswered id w.standing) ws ≡ Some w)
one-waits id p [] h = absurd (true≢false (sym h))
one-waits id p (v ∷ ws) h = by (is_unanswered id v.standing) h (one-waits id p ws)
  where
    by : (b : Bool) → ((b && p v) || list_any (λ w. is_unanswered id w.standing && p w) ws) ≡ true
        → (list_any (λ w. is_unanswered id w.standing && p w) ws ≡ true → (w : Wish) × (find (λ w. is_unanswered id w.standing) ws ≡ Some w))
        → (w : Wish) × (cond b (Some v) (find (λ w. is_unanswered id w.standing) ws) ≡ Some w)
    by true h rest = (v, refl)
    by false h rest = rest h

-- its ID counts
pub counts-waiting : (id : ℕ) (ws : List Wish) (w : Wish) → find (λ w. is_unanswered id w.standing) ws ≡ Some w → 1 ≤ count_of id (flat_map (λ w. unanswered_id w.standing) ws)
counts-waiting id [] w h = absurd cc
counts-waiting id (v ∷ ws) w h = by v.standing h (counts-waiting id ws w)
  where
    by_id : (other : ℕ) (b : Bool) → (id == other) ≡ b → cond b (Some v) (find (λ w. is_unanswered id w.standing) ws) ≡ Some w → (find (λ w. is_unanswered id w.standing) ws ≡ Some w → 1 ≤ count_of id (flat_map (λ (u : Wish). unanswered_id u.standing) ws))
        → 1 ≤ count_of id (other ∷ flat_map (λ (u : Wish). unanswered_id u.standing) ws)
    by_id other true is h rest =
        let first = count-cons id other (flat_map (λ (u : Wish). unanswered_id u.standing) ws) in
        let one : cond (other == id) 1 0 ≡ 1 = ap (λ (b : Bool). cond {A = ℕ} b 1 0) (eq-eqb other id (sym (eqb-true id other is))) in
        omega (arith, first, one)
    by_id other false is h rest =
        let first = count-cons id other (flat_map (λ (u : Wish). unanswered_id u.standing) ws) in
        let more = rest h in
        omega (arith, first, more)

    by : (s : RequestState) → cond (is_unanswered id s) (Some v) (find (λ w. is_unanswered id w.standing) ws) ≡ Some w → (find (λ w. is_unanswered id w.standing) ws ≡ Some w → 1 ≤ count_of id (flat_map (λ (u : Wish). unanswered_id u.standing) ws))
        → 1 ≤ count_of id (unanswered_id s ++ flat_map (λ (u : Wish). unanswered_id u.standing) ws)
    by not_asked h rest = rest h
    by (unanswered other) h rest = by_id other (id == other) refl h rest
    by (refused rcode) h rest = rest h
    by (answered other) h rest = rest h

-- ---- IDs

-- what is counted among IDs is one
pub counted : (ids : List ℕ) → AllByRecursion (λ i. IsTrue (is_id i)) ids → (id : ℕ) → 1 ≤ count_of id ids → is_id id ≡ true
counted [] all id some = absurd (omega (arith, some))
counted (u ∷ ids) all id some = by (u == id) refl (subst (λ n. 1 ≤ n) (count-cons id u ids) some) (counted ids all.1 id)
  where
    by : (b : Bool) → (u == id) ≡ b → 1 ≤ cond b 1 0 + count_of id ids → (1 ≤ count_of id ids → is_id id ≡ true) → is_id id ≡ true
    by true is more rest = subst (λ n. is_id n ≡ true) (eqb-true u id is) all.0
    by false is more rest = rest (omega (arith, more))

pub id-small : (id : ℕ) → is_id id ≡ true → id < 2 ^ 16
id-small id good = let most = leb-true id 65535 (and_parts (nat_le 1 id) (nat_le id 65535) good).1 in omega (arith, most)

out-counts : (id : ℕ) (o : Option ℕ) → o ≡ Some id → count_of id (option_to_list o) ≡ 1
out-counts id o is =
    let all : count_of id (option_to_list o) ≡ count_of id (id ∷ []) = ap (λ (p : Option ℕ). count_of id (option_to_list p)) is in
    let first = count-cons id id [] in
    let one = itself id in
    omega (arith, all, first, one)

module _ (e : BothEnds) (id : ℕ) where
  -- a wish and the Keepalive don't wait with one ID
  never-both : (w : Wish) → count_of id (used_ids e) ≤ 1 → find (λ w. is_unanswered id w.standing) e.wishes ≡ Some w → e.keepalive_out ≡ Some id → ⊥
  never-both w most found out =
      let waits = counts-waiting id e.wishes w found in
      let used = count-used id e in
      let waiting = count-unanswered id e in
      let one = out-counts id e.keepalive_out out in
      omega (arith, most, waits, used, waiting, one)

  waiting-small : (w : Wish) → AllByRecursion (λ i. IsTrue (is_id i)) (used_ids e) → find (λ w. is_unanswered id w.standing) e.wishes ≡ Some w → id < 2 ^ 16
  waiting-small w all found =
      let waits = counts-waiting id e.wishes w found in
      let used = count-used id e in
      let waiting = count-unanswered id e in
      id-small id (counted (used_ids e) all id (omega (arith, waits, used, waiting)))

  out-small : AllByRecursion (λ i. IsTrue (is_id i)) (used_ids e) → e.keepalive_out ≡ Some id → id < 2 ^ 16
  out-small all out =
      let used = count-used id e in
      let waiting = count-unanswered id e in
      let one = out-counts id e.keepalive_out out in
      id-small id (counted (used_ids e) all id (omega (arith, used, waiting, one)))

  none-found : (o : Option Wish) → ((w : Wish) → o ≡ Some w → ⊥) → o ≡ None
  none-found None never = refl
  none-found (Some w) never = absurd (never w refl)

-- ---- the first message

begun-session : (b : Bool) → (b || false) ≡ true → b ≡ true
begun-session true h = refl
begun-session false h = absurd (true≢false (sym h))

begun-client : (session client : Bool) → session ≡ true → (not session || client || false) ≡ true → client ≡ true
begun-client true true is h = refl
begun-client true false is h = absurd (true≢false (sym h))
begun-client false client is h = absurd (true≢false (sym is))

module _ (hub : Hub) (told : List (ℕ × ℕ)) (session : Session) (client : Client) (c : Connection) (taken : List Made) (f : Flying) (fs : List Flying) (ups : List ClientMessage)
    (fit : FitsTogether (ends_of hub told session client c) taken (f ∷ fs) ups) where
  abbrev ends : BothEnds
  ends = ends_of hub told session client c

  awaited : (id : ℕ) (p : Wish → Bool) → list_any (λ w. is_unanswered id w.standing && p w) client.wishes ≡ true → IsAwaited id client c
  awaited id p h =
      let one = one-waits id p client.wishes h in
      (waiting-small ends id one.0 fit.client.ids one.1, one.0, one.1, never-both ends id one.0 (fit.client.distinct id) one.1)

  by-kind : (m : ServerMessage) → f.says ≡ m → Fits hub.timers m client c
  by-kind (accepts id) is = awaited id (λ w. ends.serves w.question) (subst (λ m. IsTrue (fits_request ends m)) is fit.down.fits.0)
  by-kind (refuses id) is = awaited id (λ w. not (ends.serves w.question)) (subst (λ m. IsTrue (fits_request ends m)) is fit.down.fits.0)
  by-kind (grants id) is =
      let out = is-out id c.keepalive_out (subst (λ m. IsTrue (fits_request ends m)) is fit.down.fits.0) in
      (out-small ends id fit.client.ids out, none-found ends id (request_of client id) (λ w found. never-both ends id w (fit.client.distinct id) found out), out, fit.timers)
  by-kind (tells notices) is =
      let begun = begun-session session.established (subst (λ m. IsTrue (session.established || is_refusal m)) is fit.down.speaks.0) in
      begun-client session.established c.established begun (subst (λ m. IsTrue (not session.established || c.established || answer_comes_first (m ∷ map (λ (g : Flying). g.says) fs))) is fit.down.first)
  by-kind (delays rcode delay) is =
      let begun = begun-session session.established (subst (λ m. IsTrue (session.established || is_refusal m)) is fit.down.speaks.0) in
      begun-client session.established c.established begun (subst (λ m. IsTrue (not session.established || c.established || answer_comes_first (m ∷ map (λ (g : Flying). g.says) fs))) is fit.down.first)

pub first-fits : FirstMessagesFit
first-fits hub told session client c taken f fs ups fit = by-kind hub told session client c taken f fs ups fit f.says refl
