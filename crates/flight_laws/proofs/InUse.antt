-- The IDs with which wishes wait or are held, and that the next one is none of them.
--     no-more-than      different IDs with which wishes wait or are held are no more than the wishes
--     unused      an ID that isn't in use is none of them
--     next-is-free      the ID that the client takes is one, and free
use Rattle.std.proofs.Common.{◌≡◌, ℕ, ◌+◌, ◌≤◌, Bool, true, false, cond, ◌&&◌, ◌||◌, List, [], ◌∷◌, ◌++◌, length, sym, ap, ◌∙◌, refl, true≢false, arith}
use Rattle.std.specs.Prelude.{flat_map, nat_le, ◌==◌}
use Rattle.std.specs.List.{list_any, IsDistinct}
use Rattle.std.proofs.lemmas.Bool.{and_from, eqb-true, eq-eqb, le-leb, or_left, or_right}
use Rattle.std.proofs.lemmas.Cmp.{nat_eq_equiv}
use Rattle.std.proofs.lemmas.List.Folds.{list_any-append}
use Rattle.std.proofs.lemmas.Map.Made.{length-le_from_is_member}
use Rattle.pushclient.specs.Clients.{Wish, RequestState, not_asked, unanswered, refused, answered, id_in_use, next_id}
use Rattle.pushclient.specs.SoundClients.{count_of}
use Rattle.pushclient.specs.Steps.{is_unanswered}
use Rattle.pushclient.proofs.FreeIds.{next_is_id, next_is_free}
use Rattle.pushclient.proofs.SoundWishes.{in_use_counts}
use Rattle.inflight.specs.Ends.{BothEnds, ends_of, is_held_with, unanswered_id, answered_id, used_ids}
use Rattle.flight_laws.specs.Asking.{NextIdIsFree}
use Rattle.flight_laws.proofs.Counting.{count-unanswered, count-used}
use Rattle.flight_laws.proofs.Taking.{count-cons}

-- the IDs with which wishes wait or are held
abbrev pub wish_ids : List Wish → List ℕ
wish_ids ws = flat_map (λ w. id_in_use w.standing) ws

-- ---- how many

few-ids : (ws : List Wish) → length (wish_ids ws) ≤ length ws
few-ids [] = omega arith
few-ids (w ∷ ws) = by w.standing (few-ids ws)
  where
    by : (s : RequestState) → length (wish_ids ws) ≤ length ws → length (id_in_use s ++ wish_ids ws) ≤ length (w ∷ ws)
    by not_asked rest = omega (arith, rest)
    by (unanswered id) rest = omega (arith, rest)
    by (refused rcode) rest = omega (arith, rest)
    by (answered id) rest = omega (arith, rest)

-- different IDs of which a wish waits or is held with each
pub no-more-than : (ids : List ℕ) (ws : List Wish) → IsDistinct ◌==◌ ids → ((id : ℕ) → list_any (λ n. id == n) ids ≡ true → list_any (λ n. id == n) (wish_ids ws) ≡ true) → length ids ≤ length ws
no-more-than ids ws different each =
    let short = length-le_from_is_member nat_eq_equiv ids (wish_ids ws) different each in
    let few = few-ids ws in
    omega (arith, short, few)

-- ---- which

-- a wish that passes a test, and waits or is held with an ID, shows it
pub there : (test : RequestState → Bool) (id : ℕ) → ((s : RequestState) → test s ≡ true → list_any (λ n. id == n) (id_in_use s) ≡ true) → (r : Wish → Bool) (ws : List Wish)
    → list_any (λ w. test w.standing && r w) ws ≡ true → list_any (λ n. id == n) (wish_ids ws) ≡ true
there test id shows r [] h = absurd (true≢false (sym h))
there test id shows r (w ∷ ws) h = list_any-append (λ n. id == n) (id_in_use w.standing) (wish_ids ws) ∙ by (test w.standing) refl (r w) h (there test id shows r ws)
  where
    by : (b : Bool) → test w.standing ≡ b → (c : Bool) → ((b && c) || list_any (λ w. test w.standing && r w) ws) ≡ true → (list_any (λ w. test w.standing && r w) ws ≡ true → list_any (λ n. id == n) (wish_ids ws) ≡ true)
        → (list_any (λ n. id == n) (id_in_use w.standing) || list_any (λ n. id == n) (wish_ids ws)) ≡ true
    by true is true h rest = or_left (list_any (λ n. id == n) (id_in_use w.standing)) (list_any (λ n. id == n) (wish_ids ws)) (shows w.standing is)
    by true is false h rest = or_right (list_any (λ n. id == n) (id_in_use w.standing)) (list_any (λ n. id == n) (wish_ids ws)) (rest h)
    by false is c h rest = or_right (list_any (λ n. id == n) (id_in_use w.standing)) (list_any (λ n. id == n) (wish_ids ws)) (rest h)

pub shows-waiting : (id : ℕ) (s : RequestState) → is_unanswered id s ≡ true → list_any (λ n. id == n) (id_in_use s) ≡ true
shows-waiting id not_asked h = absurd (true≢false (sym h))
shows-waiting id (unanswered other) h = or_left (id == other) false h
shows-waiting id (refused rcode) h = absurd (true≢false (sym h))
shows-waiting id (answered other) h = absurd (true≢false (sym h))

pub shows-held : (id : ℕ) (s : RequestState) → is_held_with id s ≡ true → list_any (λ n. id == n) (id_in_use s) ≡ true
shows-held id not_asked h = absurd (true≢false (sym h))
shows-held id (unanswered other) h = absurd (true≢false (sym h))
shows-held id (refused rcode) h = absurd (true≢false (sym h))
shows-held id (answered other) h = or_left (id == other) false h

-- ---- how often

none-there : (id : ℕ) (ids : List ℕ) → count_of id ids ≡ 0 → list_any (λ n. id == n) ids ≡ false
none-there id [] none = refl
none-there id (n ∷ ids) none = by (id == n) refl (none-there id ids)
  where
    by : (b : Bool) → (id == n) ≡ b → (count_of id ids ≡ 0 → list_any (λ n. id == n) ids ≡ false) → (b || list_any (λ n. id == n) ids) ≡ false
    by true is rest =
        let first = count-cons id n ids in
        let one : cond (n == id) 1 0 ≡ 1 = ap (λ (b : Bool). cond {A = ℕ} b 1 0) (eq-eqb n id (sym (eqb-true id n is))) in
        absurd (omega (arith, first, one, none))
    by false is rest = let first = count-cons id n ids in rest (omega (arith, first, none))

both-counts : (n : ℕ) (ws : List Wish) → count_of n (wish_ids ws) ≡ count_of n (flat_map (λ w. unanswered_id w.standing) ws) + count_of n (flat_map (λ w. answered_id w.standing) ws)
both-counts n [] = omega arith
both-counts n (w ∷ ws) = by w.standing (both-counts n ws)
  where
    by : (s : RequestState) → count_of n (wish_ids ws) ≡ count_of n (flat_map (λ (v : Wish). unanswered_id v.standing) ws) + count_of n (flat_map (λ (v : Wish). answered_id v.standing) ws)
        → count_of n (id_in_use s ++ wish_ids ws) ≡ count_of n (unanswered_id s ++ flat_map (λ (v : Wish). unanswered_id v.standing) ws) + count_of n (answered_id s ++ flat_map (λ (v : Wish). answered_id v.standing) ws)
    by not_asked rest = rest
    by (unanswered id) rest =
        let first = count-cons n id (wish_ids ws) in
        let waiting = count-cons n id (flat_map (λ (v : Wish). unanswered_id v.standing) ws) in
        omega (arith, first, waiting, rest)
    by (refused rcode) rest = rest
    by (answered id) rest =
        let first = count-cons n id (wish_ids ws) in
        let holding = count-cons n id (flat_map (λ (v : Wish). answered_id v.standing) ws) in
        omega (arith, first, holding, rest)

-- an ID that isn't in use at all
pub unused : (e : BothEnds) (id : ℕ) → count_of id (used_ids e) ≡ 0 → list_any (λ n. id == n) (wish_ids e.wishes) ≡ false
unused e id free =
    let used = count-used id e in
    let waiting = count-unanswered id e in
    let both = both-counts id e.wishes in
    none-there id (wish_ids e.wishes) (omega (arith, free, used, waiting, both))

-- ---- the next ID

pub next-is-free : NextIdIsFree
next-is-free hub told session client c s =
    let e = ends_of hub told session client c in
    let id = next_id client.wishes c in
    let good = next_is_id client.wishes c s.last in
    let free = next_is_free client.wishes c s.last s.wishes.few in
    let both = in_use_counts id client.wishes c in
    let wishes = both-counts id client.wishes in
    let used = count-used id e in
    let waiting = count-unanswered id e in
    (and_from (nat_le 1 id) (nat_le id 65535) (le-leb 1 id good.0) (le-leb id 65535 good.1), omega (arith, free, both, wishes, used, waiting))
