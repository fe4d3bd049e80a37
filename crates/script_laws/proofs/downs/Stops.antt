-- Of what a session says its Retry Delay alone is a message by which it stops.
--     IsNoStop m      a message that isn't a Retry Delay
--     no-stop      the first message that comes down, if it doesn't close the connection
use Rattle.std.proofs.Common.{◌≡◌, ℕ, Bool, true, false, ◌&&◌, ◌||◌, not, List, [], ◌∷◌, ◌++◌, length, get_or, Some, None, sym, ap, ◌∙◌, refl, arith, true≢false}
use Rattle.std.specs.Prelude.{IsTrue, flat_map, nat_le, option_to_list, ◌==◌, ◌/◌, ◌%◌}
use Rattle.std.specs.List.{list_any, AllByRecursion}
use Rattle.std.proofs.lemmas.Bool.{and_parts, eqb-true, leb-true}
use Rattle.dsotlv.specs.Answers.{stop_message}
use Rattle.dsosession.specs.declared.session.CloseReason.TheVariants as closes
use Rattle.dsosession.specs.declared.session.Timers.{Timers}
use Rattle.pushserver.specs.PlainHubs.{Made}
use Rattle.pushclient.specs.Clients.{Wish, RequestState, not_asked, unanswered, refused, answered}
use Rattle.pushclient.specs.ServerMessages.{ServerMessage, accepts, refuses, grants, tells, delays, server_octets}
use Rattle.pushclient.specs.Steps.{is_unanswered}
use Rattle.pushclient.proofs.SoundWishes.{all_front}
use Rattle.inflight.specs.Ends.{BothEnds, is_id, unanswered_id, answered_id, unanswered_ids, fits_request}
use Rattle.inflight.specs.Flight.{IsSoundClient}
use Rattle.flight_laws.specs.Taking.{closed_by}

abbrev pub IsNoStop : Made → Type 0
IsNoStop m = (rcode delay : ℕ) → m.message ≡ stop_message rcode delay → ⊥

-- the ID with which a wish waits is one
module _ (id : ℕ) (r : Wish → Bool) where
  abbrev AreIds : List ℕ → Type 0
  AreIds ids = AllByRecursion (λ n. IsTrue (is_id n)) ids

  abbrev one_waits : List Wish → Bool
  one_waits ws = list_any (λ w. is_unanswered id w.standing && r w) ws

  waits-as : (s : RequestState) (ids : List ℕ) (own others : Bool) → AreIds (unanswered_id s ++ ids) → ((is_unanswered id s && own) || others) ≡ true → (AreIds ids → others ≡ true → is_id id ≡ true) → is_id id ≡ true
  waits-as (unanswered other) ids own others all h rest = by (id == other) refl h
    where
      by : (b : Bool) → (id == other) ≡ b → ((b && own) || others) ≡ true → is_id id ≡ true
      by true is h = ap is_id (eqb-true id other is) ∙ all.0
      by false is h = rest all.1 h
  waits-as (answered other) ids own others all h rest = rest all h
  waits-as (refused rcode) ids own others all h rest = rest all h
  waits-as not_asked ids own others all h rest = rest all h

  waits-with-id : (ws : List Wish) → AreIds (flat_map (λ w. unanswered_id w.standing) ws) → one_waits ws ≡ true → is_id id ≡ true
  waits-with-id [] all h = absurd (true≢false (sym h))
  waits-with-id (w ∷ ws) all h = waits-as w.standing (flat_map (λ v. unanswered_id v.standing) ws) (r w) (one_waits ws) all h (waits-with-id ws)

refused-id : (e : BothEnds) (id : ℕ) → IsSoundClient e → IsTrue (fits_request e (refuses id)) → is_id id ≡ true
refused-id e id sound fits =
    let P : ℕ → Type 0 = λ n. IsTrue (is_id n) in
    let waiting = all_front P (unanswered_ids e) (flat_map (λ w. answered_id w.standing) e.wishes) sound.ids in
    waits-with-id id (λ w. not (e.serves w.question)) e.wishes (all_front P (flat_map (λ w. unanswered_id w.standing) e.wishes) (option_to_list e.keepalive_out) waiting) fits

-- ---- octets

-- a message without an ID begins with two octets of zero
zero-first : (id : ℕ) → is_id id ≡ true → id / 256 % 256 ≡ 0 → id % 256 ≡ 0 → ⊥
zero-first id is high low =
    let parts = and_parts (nat_le 1 id) (nat_le id 65535) is in
    omega (arith, leb-true 1 id parts.0, leb-true id 65535 parts.1, high, low)

pub no-stop : (e : BothEnds) (timers : Timers) (says : ServerMessage) (rcode delay : ℕ) → IsSoundClient e → IsTrue (fits_request e says) → closed_by says ≡ None → server_octets timers says ≡ stop_message rcode delay → ⊥
no-stop e timers (accepts id) rcode delay sound fits still same = let size = ap length same in omega (arith, size)
no-stop e timers (grants id) rcode delay sound fits still same = let size = ap length same in omega (arith, size)
no-stop e timers (refuses id) rcode delay sound fits still same = zero-first id (refused-id e id sound fits) (ap (λ m. get_or m 0 0) same) (ap (λ m. get_or m 1 0) same)
no-stop e timers (tells notices) rcode delay sound fits still same = let kind = ap (λ m. get_or m 13 0) same in omega (arith, kind)
no-stop e timers (delays code ms) rcode delay sound fits still same = let both : Some (closes.Delay ms code) ≡ None = still in absurd cc
