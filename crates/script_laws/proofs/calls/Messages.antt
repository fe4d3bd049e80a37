-- What came into a session are the messages that were reacted to, and what waits.
--     reacted-small      each of these messages is shorter than 2^16 octets
--     splits-so      octets that are their frames, and the input behind them
--     reacted-in-turn      of a session that was connected in the calls
use Rattle.std.proofs.Common.{◌≡◌, ℕ, ◌<◌, ◌^◌, Bool, true, false, cond, List, [], ◌∷◌, ◌++◌, Option, Some, None, refl, sym, ◌∙◌, ap, append_assoc}
use Rattle.std.specs.Prelude.{◌==◌, ◌&&◌, flat_map, length}
use Rattle.std.specs.List.{All, AllByRecursion}
use Rattle.std.proofs.lemmas.Grind.{flat_map-append}
use Rattle.std.proofs.lemmas.List.Elements.{All-append, recursion_from_All, All-nil, All-cons}
use Rattle.push_base.specs.Cases.{is_empty}
use Rattle.coalesce.proofs.ReadBack.{each-append}
use Rattle.dsotlv.specs.Laws.{AreOctets}
use Rattle.dsotlv.specs.Messages.{frame, first_message, messages_in}
use Rattle.dsotlv.proofs.FrameLaws.{frames_found, frames_there}
use Rattle.dsotlv.proofs.StreamLaws.{one_by_one}
use Rattle.pushserver.specs.PlainHubs.{Hub, Session}
use Rattle.pushserver.specs.Hubs.{session_of}
use Rattle.pushserver.specs.Calls.{HubCall, updates, hears, goes, moves, connects, takes, gives, stops, ends, called, after_calls, BringsOctets}
use Rattle.pushserver.proofs.Walks.{keeps-called, keeps-calls, BringsGood}
use Rattle.pushtelling.specs.Runs.{is_live, first_of, message_up, reacts_to, reacted_to, taken_in}
use Rattle.pushtelling.proofs.Running.{made_goes_out, each_is_reacted_to_once}
use Rattle.replay.proofs.worlds.InputOctets.{HoldsOctets, octets-kept, found_octets}
use Rattle.script_laws.specs.EachMessage.{IsReactedTo}

abbrev pub IsSmall : List ℕ → Type 0
IsSmall message = length message < 2 ^ 16

-- ---- the sizes of messages

first-small : (stream : List ℕ) (found : List ℕ × List ℕ) → AreOctets stream → first_message stream ≡ Some found → IsSmall found.0
first-small stream found octets is =
    let others = messages_in found.1 in
    (recursion_from_All IsSmall (found.0 ∷ others.0) (frames_found stream (found.0 ∷ others.0) others.1 octets (one_by_one stream found.0 found.1 is)).each).0

up-small : (hub : Hub) (number : ℕ) → HoldsOctets hub → AllByRecursion IsSmall (message_up hub number)
up-small hub number h = by (session_of hub number) refl
  where
    heads : Option (List ℕ × List ℕ) → List (List ℕ)
    heads o = elim o as (λ _. List (List ℕ)) [ None ↦ [] | Some found ↦ found.0 ∷ [] ]

    by_first : (s : Session) → AreOctets s.input → (b : Bool) (o : Option (List ℕ × List ℕ)) → first_message s.input ≡ o → AllByRecursion IsSmall (cond b (heads o) [])
    by_first s octets false o is = tt
    by_first s octets true None is = tt
    by_first s octets true (Some found) is = (first-small s.input found octets is, tt)

    by : (o : Option Session) → session_of hub number ≡ o → AllByRecursion IsSmall (elim o as (λ _. List (List ℕ)) [ None ↦ [] | Some session ↦ first_of session ])
    by None there = tt
    by (Some s) there = by_first s (found_octets hub number s there h) (is_live s.standing && is_empty s.output) (first_message s.input) refl

called-small : (number : ℕ) (call : HubCall) (hub : Hub) → HoldsOctets hub → AllByRecursion IsSmall (reacts_to number hub call)
called-small number (updates message) hub h = tt
called-small number (hears link datagram) hub h = tt
called-small number (goes link) hub h = tt
called-small number (moves t) hub h = tt
called-small number connects hub h = tt
called-small number (takes other piece) hub h = tt
called-small number (gives other room) hub h = by (number == other)
  where
    by : (b : Bool) → AllByRecursion IsSmall (cond b (message_up hub other) [])
    by true = up-small hub other h
    by false = tt
called-small number (stops other rcode delay) hub h = tt
called-small number (ends other) hub h = tt

pub brings-good : (calls : List HubCall) → AllByRecursion BringsOctets calls → AllByRecursion (BringsGood AreOctets) calls
brings-good [] good = tt
brings-good (call ∷ calls) good = (by call good.0, brings-good calls good.1)
  where
    by : (c : HubCall) → BringsOctets c → BringsGood AreOctets c
    by (updates message) good = good
    by (hears link datagram) good = good
    by (goes link) good = tt
    by (moves t) good = tt
    by connects good = tt
    by (takes other piece) good = good
    by (gives other room) good = tt
    by (stops other rcode delay) good = tt
    by (ends other) good = tt

small-by : (number : ℕ) (calls : List HubCall) (hub : Hub) → AllByRecursion (BringsGood AreOctets) calls → HoldsOctets hub → AllByRecursion IsSmall (reacted_to number calls hub)
small-by number [] hub good h = tt
small-by number (call ∷ calls) hub good h =
    each-append IsSmall (reacts_to number hub call) (reacted_to number calls (called call hub)) (called-small number call hub h)
    (small-by number calls (called call hub) good.1 (keeps-called AreOctets HoldsOctets octets-kept call hub good.0 h))

pub reacted-small : (number : ℕ) (calls : List HubCall) (hub : Hub) → AllByRecursion BringsOctets calls → HoldsOctets hub → AllByRecursion IsSmall (reacted_to number calls hub)
reacted-small number calls hub good h = small-by number calls hub (brings-good calls good) h

pub holds-behind : (calls : List HubCall) (hub : Hub) → AllByRecursion BringsOctets calls → HoldsOctets hub → HoldsOctets (after_calls calls hub)
holds-behind calls hub good h = keeps-calls AreOctets HoldsOctets octets-kept calls hub (brings-good calls good) h

-- ---- octets that are frames

all-of : {A : Type 0} (P : A → Type 0) (xs : List A) → AllByRecursion P xs → All P xs
all-of P [] all = All-nil P
all-of P (x ∷ xs) all = All-cons P x xs all.0 (all-of P xs all.1)

pub splits-so : (messages : List (List ℕ)) (input front : List ℕ) → AllByRecursion IsSmall messages → AreOctets input → front ≡ flat_map frame messages ++ input
    → messages_in front ≡ (messages ++ (messages_in input).0, (messages_in input).1)
splits-so messages input front small octets is =
    let left = messages_in input in
    let waits = frames_found input left.0 left.1 octets refl in
    frames_there front (messages ++ left.0) left.1 (record {
      whole = is ∙ ap (λ (os : List ℕ). flat_map frame messages ++ os) waits.whole ∙ sym (append_assoc (flat_map frame messages) (flat_map frame left.0) left.1)
          ∙ ap (λ (os : List ℕ). os ++ left.1) (sym (flat_map-append frame messages left.0));
      each = All-append IsSmall messages left.0 (all-of IsSmall messages small) waits.each;
      partial = waits.partial;
    })

-- ---- a session that was connected in the calls

pub reacted-in-turn : (number : ℕ) (calls : List HubCall) (hub : Hub) (session : Session) → AllByRecursion BringsOctets calls → HoldsOctets hub → session_of hub number ≡ None → session_of (after_calls calls hub) number ≡ Some session
    → IsReactedTo number calls hub session
reacted-in-turn number calls hub session good h none there =
    let is = (each_is_reacted_to_once hub calls number session good there).1 none in
    record {
      octets = is;
      messages = splits-so (reacted_to number calls hub) session.input (taken_in number calls hub) (reacted-small number calls hub good h)
          (found_octets (after_calls calls hub) number session there (holds-behind calls hub good h)) is;
      went_out = (made_goes_out hub calls number session there).1 none;
    }
