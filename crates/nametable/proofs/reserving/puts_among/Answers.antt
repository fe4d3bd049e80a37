use Rattle.std.proofs.Common.{◌∙◌, sym, ap, arith}
use Rattle.std.proofs.lemmas.List.{take_all}
use Rattle.nametable.proofs.PlanRuns.{puts_among, puts-more}
use Rattle.nametable.proofs.reserving.puts_among.Goals.{then-is_some, else-is_some}
use Rattle.nametable.proofs.reserving.puts_among.Goals as goal

pub changes-preserved : goal.changes-preserved
changes-preserved c =
    let all = c.args.changed.now in
    let most = c.changes.invariant.1 in
    elim c.if-is_some.branch [
      | then-is_some w ↦ (puts-more all c.changes.change-index c.change-item.result c.changes.count c.if-is_some.count _ c.changes.invariant.0 c.change-item.is c.changes-test.true (sym c.is_some.ensures ∙ w.if-is_some.true) w.count-is, (let is = w.count-is in omega (arith, is, most)))
      | else-is_some w ↦ (puts-more all c.changes.change-index c.change-item.result c.changes.count c.if-is_some.count _ c.changes.invariant.0 c.change-item.is c.changes-test.true (sym c.is_some.ensures ∙ w.if-is_some.false) (let is = w.count-is in omega (arith, is)), (let is = w.count-is in omega (arith, is, most)))
    ]

pub returns : goal.returns
returns c = c.changes.invariant.0 ∙ ap puts_among (take_all c.changes.change-index c.args.changed.now c.changes-test.false)
