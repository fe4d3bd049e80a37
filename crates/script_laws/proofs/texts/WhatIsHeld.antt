-- Where what is under way holds, the client holds the history at the points of the notes that came with it.
--     holds-the-history
use Rattle.std.proofs.Common.{◌≡◌, ℕ, ◌≤◌, Bool, true, false, not, List, [], Option, Some, option_map, refl, sym, ◌∙◌, ap, subst}
use Rattle.std.specs.List.{AllByRecursion}
use Rattle.dsotlv.specs.Notices.{applied_all}
use Rattle.pushserver.specs.PlainHubs.{Hub, Made}
use Rattle.pushserver.proofs.hub_steps.Pairs.{all-weaken}
use Rattle.pushclient.specs.Clients.{Wish, answered}
use Rattle.inflight.specs.Ends.{told_end}
use Rattle.flight_laws.specs.Holding.{IsHeldAtLast}
use Rattle.flight_laws.proofs.HeldHistory.{held-is-history}
use Rattle.replay.specs.World.{Seat, last_of, filled_of}
use Rattle.replay.specs.TextWords.{records_told, is_filling}
use Rattle.replay.specs.Promises.{HoldsHistory, HoldsTheHistory}
use Rattle.script_laws.proofs.texts.Arrived.{last-behind}
use Rattle.script_laws.proofs.texts.HeldSets.{has-arrived}

-- a question whose first answer is among so many octets has the records of the history at the last note
abbrev IsAtLast : Hub → List (ℕ × ℕ) → List Made → ℕ → Wish → Type 0
IsAtLast hub told taken reached w = (id n : ℕ) → w.standing ≡ answered id → told_end told id ≡ Some n → n ≤ reached → IsHeldAtLast hub taken w.question (applied_all w.notices w.question [])

is-not : (b : Bool) → not b ≡ true → b ≡ false
is-not true h = absurd cc
is-not false h = refl

at-last : (hub : Hub) (taken : List Made) (seat : Seat) (w : Wish) → IsAtLast hub seat.filled taken seat.reached w → HoldsHistory hub taken seat w
at-last hub taken seat w at id standing arrived =
    let f = has-arrived seat.reached (filled_of seat id) (is-not (is_filling seat id) arrived) in
    let last : IsHeldAtLast hub taken w.question (applied_all w.notices w.question []) = at id f.end standing f.told_so f.within in
    last.3 ∙ sym (ap (λ (o : Option Made). records_told hub (option_map (λ (m : Made). m.note) o) w.question) (ap last_of last.2 ∙ last-behind last.0 last.1))

pub holds-the-history : HoldsTheHistory
holds-the-history hub shown seat session c holds =
    let i = holds.flight in
    let h = held-is-history hub seat.filled session seat.client c seat.up_wire seat.down_wire holds.history holds.ends holds.waits i in
    let last : AllByRecursion (IsAtLast hub seat.filled i.taken seat.reached) seat.client.wishes = subst (λ (n : ℕ). AllByRecursion (IsAtLast hub seat.filled i.taken n) seat.client.wishes) (sym holds.reached) h.last in
    record {
      last = all-weaken (IsAtLast hub seat.filled i.taken seat.reached) (HoldsHistory hub i.taken seat) (λ w at. at-last hub i.taken seat w at) seat.client.wishes last;
      along = record { each = h.along; all = h.sent_all };
    }
