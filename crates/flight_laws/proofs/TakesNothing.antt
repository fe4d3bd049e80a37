-- The client has taken the same messages behind each call of the hub.
--     gives-take-nothing, others-take-nothing
use Rattle.std.proofs.Common.{◌≡◌, ℕ, ◌+◌, Bool, true, false, List, [], ◌∷◌, ◌++◌, length, sym, ap, ◌∙◌, subst, refl}
use Rattle.std.specs.Prelude.{flat_map, ◌==◌, if◌then◌else◌}
use Rattle.std.proofs.lemmas.Bool.{eqb-true}
use Rattle.std.proofs.lemmas.List.{append_assoc, append-nil, length-append}
use Rattle.pushserver.specs.Calls.{HubCall, updates, hears, goes, moves, connects, takes, gives, stops, ends, called}
use Rattle.pushserver.specs.Giving.{give}
use Rattle.pushserver.specs.PlainHubs.{Session, Hub, Made, frame_of, size_of_made}
use Rattle.livesessions.proofs.SessionLists.{number-itself}
use Rattle.pushtelling.specs.Runs.{hands_out, handed_out, WentOut}
use Rattle.pushtelling.proofs.Running.{made_goes_out}
use Rattle.pushclient.specs.Clients.{Client, Connection}
use Rattle.inflight.specs.Ends.{ends_of, going_down}
use Rattle.inflight.specs.Flight.{InFlight, IsUnderWay}
use Rattle.flight_laws.specs.GoesOn.{GivesTakeNothing, OtherCallsTakeNothing}
use Rattle.flight_laws.specs.OtherCalls.{IsOfOthers}
use Rattle.flight_laws.proofs.Holding.{size-first}
use Rattle.flight_laws.proofs.TakenStays.{taken-stays}

size-frames : (ms : List Made) → length (flat_map frame_of ms) ≡ size_of_made ms
size-frames [] = refl
size-frames (m ∷ ms) = length-append (frame_of m) (flat_map frame_of ms) ∙ ap (λ n. length (frame_of m) + n) (size-frames ms) ∙ sym (size-first m ms)

-- what was handed out, and what waits to be, are what waited before, and more behind it
went-length : (input wire handed output later frames : List ℕ) → handed ++ later ≡ output ++ frames → length (input ++ ((wire ++ handed) ++ later)) ≡ length (input ++ (wire ++ output)) + length frames
went-length input wire handed output later frames is =
    let all : input ++ ((wire ++ handed) ++ later) ≡ (input ++ (wire ++ output)) ++ frames =
    ap (λ x. input ++ x) (append_assoc wire handed later ∙ ap (λ x. wire ++ x) is ∙ sym (append_assoc wire output frames)) ∙ sym (append_assoc input (wire ++ output) frames) in
    ap length all ∙ length-append (input ++ (wire ++ output)) frames

went : (hub hub_later : Hub) (told told_later : List (ℕ × ℕ)) (before after : Session) (handed : List ℕ) (client : Client) (c : Connection) (up up_later wire : List ℕ) → WentOut handed before after
    → (i : InFlight (ends_of hub told before client c) up (going_down before c wire)) (j : InFlight (ends_of hub_later told_later after client c) up_later (going_down after c (wire ++ handed)))
    → j.taken ≡ i.taken
went hub hub_later told told_later before after handed client c up up_later wire w i j =
    taken-stays (ends_of hub told before client c) (ends_of hub_later told_later after client c) up (going_down before c wire) up_later (going_down after c (wire ++ handed)) w.more w.made
    (went-length c.input wire handed before.output after.output (flat_map frame_of w.more) w.octets ∙ ap (λ n. length (going_down before c wire) + n) (size-frames w.more)) i j

pub gives-take-nothing : GivesTakeNothing
gives-take-nothing hub number room told session client c up_wire down_wire below there before behind =
    let octets = (give hub number room).octets in
    let handed : handed_out number (gives number room ∷ []) hub ≡ octets = append-nil (hands_out number hub (gives number room)) ∙ ap (λ (b : Bool). if b then octets else []) (number-itself number) in
    let all : WentOut (handed_out number (gives number room ∷ []) hub) session behind.later = (made_goes_out hub (gives number room ∷ []) number behind.later behind.there).0 session below there in
    went hub (give hub number room).hub told _ session behind.later octets client c _ _ down_wire (subst (λ os. WentOut os session behind.later) handed all) before behind.flight

-- nothing of the session is handed out by a call that isn't of it
none-handed : (number : ℕ) (hub : Hub) (call : HubCall) → IsOfOthers number call → hands_out number hub call ≡ []
none-handed number hub (gives other room) apart = by (number == other) refl
  where
    by : (b : Bool) → (number == other) ≡ b → (if b then (give hub other room).octets else []) ≡ []
    by true is = absurd (apart (eqb-true number other is))
    by false is = refl
none-handed number hub (updates message) apart = refl
none-handed number hub (hears link datagram) apart = refl
none-handed number hub (goes link) apart = refl
none-handed number hub (moves t) apart = refl
none-handed number hub connects apart = refl
none-handed number hub (takes other piece) apart = refl
none-handed number hub (stops other rcode delay) apart = refl
none-handed number hub (ends other) apart = refl

pub others-take-nothing : OtherCallsTakeNothing
others-take-nothing hub call number told session later client c up_wire down_wire apart below there there_later before after =
    let handed : handed_out number (call ∷ []) hub ≡ [] = append-nil (hands_out number hub call) ∙ none-handed number hub call apart in
    let all : WentOut (handed_out number (call ∷ []) hub) session later = (made_goes_out hub (call ∷ []) number later there_later).0 session below there in
    let same : down_wire ++ [] ≡ down_wire = append-nil down_wire in
    moved (down_wire ++ []) same (went hub (called call hub) told told session later [] client c _ _ down_wire (subst (λ os. WentOut os session later) handed all) before)
  where
    moved : (wire : List ℕ) → wire ≡ down_wire → ((j : IsUnderWay (called call hub) told later client c up_wire wire) → j.taken ≡ before.taken) → after.taken ≡ before.taken
    moved wire same each = (subst (λ w. ((j : IsUnderWay (called call hub) told later client c up_wire w) → j.taken ≡ before.taken)) same each) after
