-- A SUBSCRIBE that a peer sends as its first octets is one that is sent anywhere, and its answer stands alone in the line.
--     first-ones      the law
use Rattle.std.proofs.Common.{◌≡◌, ℕ, ◌≤◌, Bool, true, false, ◌||◌, List, [], ◌∷◌, ◌++◌, length, take, drop, min, Option, Some, None, refl, sym, ◌∙◌, ap, arith, take_all, le_refl, eq-eqb}
use Rattle.std.specs.Prelude.{◌==◌, option_map, IsSome}
use Rattle.dsotlv.specs.Messages.{first_message}
use Rattle.pushsession.specs.Sessions.{new_session, with_piece, room_of}
use Rattle.pushserver.specs.PlainHubs.{Hub, Session, plain_keeps}
use Rattle.pushserver.specs.Hubs.{now, session_of, connect, taken_by, take_octets}
use Rattle.pushserver.specs.Calls.{HubCall, takes as taking, after_calls}
use Rattle.livesessions.proofs.SessionLists.{found-in}
use Rattle.pushtelling.specs.Runs.{first_of, message_up}
use Rattle.pushtelling.proofs.Running.{give_reacts}
use Rattle.scripts.specs.Lines.{send}
use Rattle.replay.specs.World.{World, session_number}
use Rattle.replay.specs.PassedOctets.{enough}
use Rattle.replay.specs.Between.{lines_of, world_then}
use Rattle.replay.specs.Serving.{Asked, asked_between, connected_then}
use Rattle.replay.specs.Text.{placed}
use Rattle.replay.proofs.serving.Serving.{served_is}
use Rattle.replay.proofs.turns.SendSizes.{sends-short}
use Rattle.script_laws.specs.Whole.{StandsAfterEachLine}
use Rattle.replay.specs.LineCalls.{emit_calls, fed_calls, exchange_calls}
use Rattle.script_laws.specs.EachMessage.{HasItsTurn}
use Rattle.script_laws.specs.Sending.{first_as, FirstOnesAskAnywhere}
use Rattle.script_laws.proofs.Reading.{are-lines}
use Rattle.script_laws.proofs.hubs.HubNumbers.{new-ones-are-found}

-- octets that all have room go in at once
module _ (number : ℕ) (octets : List ℕ) (hub : Hub) where
  abbrev by_taken : ℕ → List HubCall
  by_taken k =
      let first = fed_calls number (take k octets) hub in
      elim (k == 0 || k == length octets) [ true ↦ first | false ↦ first ++ exchange_calls 18446744073709551615 number (drop k octets) (after_calls first hub) ]

  or_true : (b : Bool) → (b || true) ≡ true
  or_true true = refl
  or_true false = refl

  at-once : taken_by hub number octets ≡ length octets → exchange_calls enough number octets hub ≡ fed_calls number octets hub
  at-once all =
      ap by_taken all
      ∙ ap (λ (b : Bool). elim (length octets == 0 || b) as (λ _. List HubCall) [
        | true ↦ fed_calls number (take (length octets) octets) hub
        | false ↦ fed_calls number (take (length octets) octets) hub ++ exchange_calls 18446744073709551615 number (drop (length octets) octets) (after_calls (fed_calls number (take (length octets) octets) hub) hub)
      ]) (eq-eqb (length octets) (length octets) refl)
      ∙ ap (λ (b : Bool). elim b as (λ _. List HubCall) [
        | true ↦ fed_calls number (take (length octets) octets) hub
        | false ↦ fed_calls number (take (length octets) octets) hub ++ exchange_calls 18446744073709551615 number (drop (length octets) octets) (after_calls (fed_calls number (take (length octets) octets) hub) hub)
      ]) (or_true (length octets == 0))
      ∙ ap (λ (os : List ℕ). fed_calls number os hub) (take_all (length octets) octets (le_refl (length octets)))

-- a session's first octets, which are one whole frame
module _ (hub : Hub) (number moment : ℕ) (octets message : List ℕ) (there : session_of hub number ≡ Some (new_session (plain_keeps 0) moment)) (found : first_message octets ≡ Some (message, [])) (few : length octets ≤ 65537) where
  abbrev new : Session
  new = new_session (plain_keeps 0) moment

  abbrev fed : Hub
  fed = take_octets hub number octets

  fed-there : session_of fed number ≡ Some (with_piece octets new)
  fed-there = found-in number (with_piece octets) hub.sessions ∙ ap (option_map (with_piece octets)) there

  input-is : (with_piece octets new).input ≡ octets
  input-is = take_all 69633 octets (omega (arith, few))

  first : first_message (with_piece octets new).input ≡ Some (message, [])
  first = ap first_message input-is ∙ found

  is-up : message_up fed number ≡ message ∷ []
  is-up =
      ap (λ (o : Option Session). elim o as (λ _. List (List ℕ)) [ None ↦ [] | Some s ↦ first_of s ]) fed-there
      ∙ ap (λ (o : Option (List ℕ × List ℕ)). elim o as (λ _. List (List ℕ)) [ None ↦ [] | Some f ↦ f.0 ∷ [] ]) first

  all-taken : taken_by hub number octets ≡ length octets
  all-taken = ap (λ (o : Option Session). elim o as (λ _. ℕ) [ None ↦ 0 | Some s ↦ min (length octets) (room_of s) ]) there ∙ least (length octets) few
    where
      least : (n : ℕ) → n ≤ 65537 → min n 69633 ≡ n
      least n h = omega arith

  abbrev first-turn : HasItsTurn number (exchange_calls enough number octets hub) hub [] message
  first-turn =
      let r = give_reacts fed number enough (with_piece octets new) message fed-there is-up in
      record {
        first = taking number octets ∷ [];
        room = enough;
        last = drop 1 (emit_calls enough number enough fed);
        calls_are = at-once number octets hub all-taken;
        before = refl;
        session = with_piece octets new;
        there = fed-there;
        live = refl;
        silent = refl;
        rest = r.0;
        stands_first = r.1;
        reacts = r.2;
      }

some-number : (o : Option ℕ) → IsSome o → (n : ℕ) × (o ≡ Some n)
some-number None is = absurd cc
some-number (Some n) is = (n, refl)

pub first-ones : StandsAfterEachLine → FirstOnesAskAnywhere
first-ones stands text asked asks =
    let world : World = world_then (asked_between asked) in
    let all = stands (lines_of (asked_between asked)) asked.before (send asked.word asked.octets ∷ asked.behind) (are-lines text (lines_of (asked_between asked)) asks.read) refl in
    let made = some-number (connect world.hub).0 asks.seat in
    let number : ℕ = made.0 in
    let new = new-ones-are-found world.hub number all.reached made.1 in
    let few = sends-short text asked.before asked.behind asked.word asked.octets asks.read in (
      number,
      record {
        read = asks.read;
        place = place-of asked number asks.new_peer made.1;
        turn = first-turn (connected_then asked) number (now world.hub) asked.octets asked.message new.there asks.found few;
        acceptable = record { request = asks.acceptable.request; accepted = asks.acceptable.accepted };
      },
      λ records answer. sym answer.replied ∙ served_is records text asked asks,
    )
  where
    place-of : (asked : Asked) (number : ℕ) → session_number (world_then (asked_between asked)) asked.word ≡ None → (connect (world_then (asked_between asked)).hub).0 ≡ Some number
        → placed asked.word (world_then (asked_between asked)) ≡ Some (number, (first_as asked number).world)
    place-of asked number none made =
        let world : World = world_then (asked_between asked) in
        ap (λ (o : Option ℕ). elim o as (λ _. Option (ℕ × World)) [
          | Some n ↦ Some (n, world)
          | None ↦ option_map (λ n. (n, record world { hub = (connect world.hub).1; peers = world.peers ++ (asked.word, n) ∷ [] })) (connect world.hub).0
        ]) none
        ∙ ap (option_map (λ n. (n, record world { hub = (connect world.hub).1; peers = world.peers ++ (asked.word, n) ∷ [] }))) made
