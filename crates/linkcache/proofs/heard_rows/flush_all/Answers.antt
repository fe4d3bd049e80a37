use Rattle.std.proofs.Common.{◌∙◌, ◌+◌, drop, fold, sym, ap, subst, List}
use Rattle.rrset.specs.Tables.{TableState}
use Rattle.rrset.specs.declared.record.HeardRr.{HeardRr}
use Rattle.linkcache.specs.Flushed.{AreFlushed}
use Rattle.linkcache.specs.Parts.{laid}
use Rattle.linkcache.specs.Rows.{LinkRows, flushed_by}
use Rattle.linkcache.specs.declared.row.HeardRow.{HeardRow}
use Rattle.linkcache.proofs.HeardSteps.{flushing, flushing-more, flushing-skip}
use Rattle.linkcache.proofs.heard_rows.flush_all.Goals.{then-is_flushing+in_ok-over, else-is_flushing}
use Rattle.linkcache.proofs.heard_rows.flush_all.Goals as goal

pub hearing-preserved : goal.hearing-preserved
hearing-preserved c =
    let rules = c.args.rules.now in
    let rows = c.args.rows.now.rows in
    let hs = c.args.hearing.now in
    let i = c.hearing.heard-index in
    elim c.if-is_flushing.branch [
      | then-is_flushing+in_ok-over w ↦ (
        ap (λ (l : LinkRows). fold (flushed_by c.args.now) l (flushing rules hs i c.heard-item.result c.hearing-test.true c.heard-item.is (drop (i + 1) hs))) (ap (λ (t : TableState _). laid t.rows rows) w.over-is ∙ w.in_ok-over.ensures.rows)
            ∙ ap (λ (l : List HeardRr). fold (flushed_by c.args.now) (laid c.hearing.over.rows rows) l) (sym (flushing-more rules hs i c.heard-item.result c.hearing-test.true c.heard-item.is (sym c.is_flushing.ensures ∙ w.if-is_flushing.true)))
            ∙ c.hearing.invariant.0,
        subst (λ (t : TableState HeardRow). AreFlushed c.args.now c.if-is_flushing.sets.rows (laid t.rows rows)) (sym w.over-is)
            (subst (λ (s : TableState _). AreFlushed c.args.now s.rows (laid w.in_ok-over.over.rows rows)) (sym w.sets-is) w.in_ok-over.ensures.sets),
      )
      | else-is_flushing w ↦ (
        ap (λ (t : TableState _). fold (flushed_by c.args.now) (laid t.rows rows) (flushing rules hs i c.heard-item.result c.hearing-test.true c.heard-item.is (drop (i + 1) hs))) w.over-is
            ∙ ap (λ (l : List HeardRr). fold (flushed_by c.args.now) (laid c.hearing.over.rows rows) l) (sym (flushing-skip rules hs i c.heard-item.result c.hearing-test.true c.heard-item.is (sym c.is_flushing.ensures ∙ w.if-is_flushing.false)))
            ∙ c.hearing.invariant.0,
        subst (λ (t : TableState HeardRow). AreFlushed c.args.now c.if-is_flushing.sets.rows (laid t.rows rows)) (sym w.over-is)
            (subst (λ (s : TableState _). AreFlushed c.args.now s.rows (laid c.hearing.over.rows rows)) (sym w.sets-is) c.hearing.invariant.1),
      )
    ]
