use Rattle.std.proofs.Common.{◌≡◌, ◌+◌, ◌<◌, ◌≤◌, ◌^◌, ℕ, ◌∷◌, length, ◌∙◌, sym, ap, subst, List, arith}
use Rattle.std.specs.List.{AllByRecursion}
use Rattle.rrset.specs.RecordSet.{RecordSet, with_changes}
use Rattle.rrset.specs.Tables.{HasLowerOwner}
use Rattle.rrset.specs.declared.record.Changed.{Changed}
use Rattle.nametable.specs.Nodes.{HasRoomFor, keys_put}
use Rattle.nametable.proofs.KeyRoom.{room-front}
use Rattle.recordindex.specs.Endings.{room_of}
use Rattle.recordindex.specs.Owners.{AreOwners, owners_in}
use Rattle.recordindex.proofs.OwnerChanges.{HavePlaces}
use Rattle.recordindex.proofs.changing.make_all.Goals as goal

-- one change is made, and a step less is left
one-less : (now new whole : ℕ) (all : List Changed) (c : Changed) (rest : List Changed) → new ≡ now + 1 → all ≡ c ∷ rest → now + length all ≡ whole → new + length rest ≡ whole
one-less now new whole all c rest step is so_far = omega (arith, step, ap (λ (l : List Changed). length l) is, so_far)

fewer : (now new : ℕ) (all : List Changed) (c : Changed) (rest : List Changed) → new ≤ now + 1 → all ≡ c ∷ rest → now + length all < 2 ^ 63 → new + length rest < 2 ^ 63
fewer now new all c rest step is few = omega (arith, step, ap (λ (l : List Changed). length l) is, few)

fits : (now : ℕ) (all : List Changed) → now + length all < 2 ^ 63 → now < 2 ^ 63
fits now all few = omega (arith, few)

pub make_change-requires : goal.make_change-requires
make_change-requires g c =
    let rest = c.next.new.self.rest.items in
    let steps = c.in-Some.ensures.steps.0 in
    record {
      lower = (subst (λ (l : List Changed). AllByRecursion (λ d. HasLowerOwner d.key) l) steps c.changes.invariant.lower).0;
      room = room-front c.in-Some.change rest c.changes.index.nodes (subst (λ (l : List Changed). HasRoomFor (keys_put l) c.changes.index.nodes) steps c.changes.invariant.room);
      places = (subst (HavePlaces (room_of c.changes.suffixes.kept)) steps c.changes.invariant.places).0;
      few = fits c.changes.suffixes.total c.changes.change-iterator.rest.items c.changes.invariant.few;
      owners = c.changes.invariant.owners;
    }

pub changes-preserved : goal.changes-preserved
changes-preserved g c =
    let rest = c.next.new.self.rest.items in
    let rows = c.changes.index in
    let steps = c.in-Some.ensures.steps.0 in
    record {
      lower = (subst (λ (l : List Changed). AllByRecursion (λ d. HasLowerOwner d.key) l) steps c.changes.invariant.lower).1;
      room = c.make_change.ensures.left rest (subst (λ (l : List Changed). HasRoomFor (keys_put l) rows.nodes) steps c.changes.invariant.room);
      places = subst (λ (room : List (List ℕ)). HavePlaces room rest) (sym c.make_change.ensures.places) (subst (HavePlaces (room_of c.changes.suffixes.kept)) steps c.changes.invariant.places).1;
      few = fewer c.changes.suffixes.total c.make_change.new.suffixes.total c.changes.change-iterator.rest.items c.in-Some.change rest c.make_change.ensures.total steps c.changes.invariant.few;
      owners = c.make_change.ensures.owners;
      rows = ap (λ (l : RecordSet). with_changes rest l) c.make_change.ensures.rows ∙ ap (λ (l : List Changed). with_changes l rows.rows) (sym steps) ∙ c.changes.invariant.rows;
      steps = one-less c.changes.steps c.make_change.new.steps (c.args.steps.now + length c.args.changed.items) c.changes.change-iterator.rest.items c.in-Some.change rest c.make_change.ensures.steps steps c.changes.invariant.steps;
    }

pub returns-clause-owners : goal.returns-clause-owners
returns-clause-owners g c =
    subst (λ (rows : RecordSet). AreOwners c.give_back-2.new.self rows) (sym c.give_back.ensures) (c.give_back-2.ensures.owners (owners_in c.changes.index.rows) c.changes.invariant.owners)
