use Rattle.std.proofs.Common.{ℕ, ◌+◌, take, ap, subst, ◌∙◌}
use Rattle.std.proofs.lemmas.List.{take_all}
use Rattle.rrset.specs.Tables.{HasLowerOwner}
use Rattle.rrset.specs.declared.record.Key.{Key}
use Rattle.rrset.specs.declared.record.Shown.{Shown}
use Rattle.recordindex.specs.Owners.{AreOwners, owners_in}
use Rattle.recordindex.proofs.OwnerChanges.{all-at, owners-more}
use Rattle.recordindex.proofs.counting.count_owners.Goals as goal

pub reserve_for-requires : goal.reserve_for-requires
reserve_for-requires c = all-at (λ (e : Key × Shown). HasLowerOwner e.0) c.args.rows.now c.rows.row-index c.row-item.result c.rows-test.true c.row-item.is c.requires

pub put-requires-clause-room : goal.put-requires-clause-room
put-requires-clause-room c = c.in_ok-reserve_for.ensures.room (owners_in (take c.rows.row-index c.args.rows.now)) c.rows.invariant.owners

pub rows-preserved : goal.rows-preserved
rows-preserved c = record {
  owners = owners-more c.put.new.self c.args.rows.now c.rows.row-index c.row-item.result c.rows-test.true c.row-item.is
      (c.put.ensures.owners (owners_in (take c.rows.row-index c.args.rows.now)) (c.reserve_for.ensures.owners (owners_in (take c.rows.row-index c.args.rows.now)) c.rows.invariant.owners));
  total = c.put.ensures.total ∙ ap (λ (n : ℕ). n + 1) (c.reserve_for.ensures.total ∙ c.rows.invariant.total);
}

pub returns : goal.returns
returns c = subst (AreOwners c.rows.suffixes) (take_all c.rows.row-index c.args.rows.now c.rows-test.false) c.rows.invariant.owners
