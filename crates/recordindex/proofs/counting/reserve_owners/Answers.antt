use Rattle.std.proofs.Common.{subst, ◌∙◌}
use Rattle.std.proofs.lemmas.List.{take_all}
use Rattle.rrset.specs.Tables.{HasLowerOwner}
use Rattle.rrset.specs.declared.record.Changed.{Changed}
use Rattle.recordindex.specs.Endings.{room_of}
use Rattle.recordindex.proofs.OwnerChanges.{HavePlaces, all-at, places-more}
use Rattle.recordindex.proofs.counting.reserve_owners.Goals as goal

pub reserve_owner-requires : goal.reserve_owner-requires
reserve_owner-requires c = record { lower = all-at (λ (d : Changed). HasLowerOwner d.key) c.args.changed.now c.changes.change-index c.change-item.result c.changes-test.true c.change-item.is c.requires.lower }

pub changes-preserved : goal.changes-preserved
changes-preserved c = record {
  owners = λ owners are. c.reserve_owner.ensures.owners owners (c.changes.invariant.owners owners are);
  total = c.reserve_owner.ensures.total ∙ c.changes.invariant.total;
  room = λ owners are.
      places-more (room_of c.changes.suffixes.kept) (room_of c.reserve_owner.new.suffixes.kept) c.args.changed.now c.changes.change-index c.change-item.result c.changes-test.true c.change-item.is
      c.reserve_owner.ensures.kept (c.changes.invariant.room owners are) (c.in_ok-reserve_owner.ensures.room owners (c.changes.invariant.owners owners are));
}

pub returns-clause-room : goal.returns-clause-room
returns-clause-room c = λ owners are. subst (HavePlaces (room_of c.changes.suffixes.kept)) (take_all c.changes.change-index c.args.changed.now c.changes-test.false) (c.changes.invariant.room owners are)
