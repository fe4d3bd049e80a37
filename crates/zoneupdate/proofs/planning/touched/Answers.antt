use Rattle.std.proofs.Common.{List, take_all, ap, sym, ◌∙◌}
use Rattle.rrset.specs.RecordSet.{RecordSet, at_name, union}
use Rattle.rrset.specs.Tables.{TableState}
use Rattle.rrset.specs.declared.record.Rr.{Rr}
use Rattle.push_base.specs.Cases.{is_empty}
use Rattle.zoneupdate.specs.Touched.{part_of}
use Rattle.zoneupdate.proofs.Filters.{not-true}
use Rattle.zoneupdate.proofs.RecordSets.{set-in_order}
use Rattle.zoneupdate.proofs.TouchedSteps.{touched-none, touched-copied, touched-there}
use Rattle.zoneupdate.proofs.planning.touched.Goals.{then-not-has_name+in_ok-copy_name-2, else-not-has_name}
use Rattle.zoneupdate.proofs.planning.touched.Goals as goal

pub changes-init : goal.changes-init
changes-init c =
    c.in_ok-copy_name.ensures
    ∙ ap (λ (set : RecordSet). union set (at_name c.args.apex.now c.args.rows.now.rows)) c.new-part.ensures
    ∙ touched-none c.args.apex.now c.args.rows.now.rows (set-in_order c.args.rows.now.rows c.requires)

pub changes-preserved : goal.changes-preserved
changes-preserved c = elim c.if-not-has_name.branch [
  | then-not-has_name+in_ok-copy_name-2 w ↦ touched-copied c.args.apex.now c.as_slice-rr-items.result.now c.changes.rr-index c.rr-item.result c.changes-test.true c.rr-item.is
      c.args.rows.now.rows c.changes.part.rows c.if-not-has_name.part.rows (set-in_order c.args.rows.now.rows c.requires) c.changes.invariant
      (ap (λ (t : TableState _). t.rows) w.part-is ∙ w.in_ok-copy_name-2.ensures)
  | else-not-has_name w ↦ ap (λ (t : TableState _). t.rows) w.part-is
      ∙ touched-there c.args.apex.now c.as_slice-rr-items.result.now c.changes.rr-index c.rr-item.result c.changes-test.true c.rr-item.is
      c.args.rows.now.rows c.changes.part.rows c.changes.invariant
      (not-true (is_empty (at_name c.rr-item.result.owner c.changes.part.rows)) (sym c.has_name.ensures ∙ w.if-not-has_name.false))
]

pub returns : goal.returns
returns c = c.changes.invariant ∙ ap (λ (rrs : List Rr). part_of c.args.apex.now rrs c.args.rows.now.rows) (take_all c.changes.rr-index c.as_slice-rr-items.result.now c.changes-test.false ∙ c.as_slice-rr-items.ensures)
