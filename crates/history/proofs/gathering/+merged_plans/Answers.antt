-- The table of all is that of the front with the changes behind it.
use Rattle.std.proofs.Common.{sym, ap, subst, ◌∙◌}
use Rattle.std.proofs.lemmas.Result.{IfOk-weaker}
use Rattle.nametable.specs.Nodes.{HaveRisingKeys}
use Rattle.history.specs.Gathering.{changed_rows}
use Rattle.history.proofs.MergedChanges.{nows, gathered-one, gathered-halves, gathered-rise}
use Rattle.history.proofs.gathering.+merged_plans.Goals as goal

pub returns-then-plans-eq1 : goal.returns-then-plans-eq1
returns-then-plans-eq1 t c =
    IfOk-weaker c.all_of.result _ _ (λ all is. gathered-one c.args.plans.now c.index-plans-0.result (nows all.items) c.requires c.if-plans-eq1.true c.index-plans-0.is (is ∙ c.changed.ensures)) c.all_of.ensures

pub merged-requires-clause-first : goal.merged-requires-clause-first
merged-requires-clause-first t c =
    subst (λ cs. HaveRisingKeys (nows cs)) (sym c.deref.ensures.value) (gathered-rise c.split_at.result.0.now (nows c.in_ok-first.first.items) c.in_ok-first.ensures)

pub merged-requires-clause-second : goal.merged-requires-clause-second
merged-requires-clause-second t c =
    subst (λ cs. HaveRisingKeys (nows cs)) (sym c.deref-2.ensures.value) (gathered-rise c.split_at.result.1.now (nows c.in_ok-second.second.items) c.in_ok-second.ensures)

pub returns : goal.returns
returns t c =
    IfOk-weaker c.merged.result _ _
    (λ all is. gathered-halves c.args.plans.now c.split_at.result.0.now c.split_at.result.1.now _ (nows c.deref.result.now) (nows c.deref-2.result.now) (nows all.items) c.split_at.ensures.front c.split_at.ensures.back
    (ap (λ cs. changed_rows (nows cs)) c.deref.ensures.value ∙ c.in_ok-first.ensures) (ap (λ cs. changed_rows (nows cs)) c.deref-2.ensures.value ∙ c.in_ok-second.ensures) is)
    c.merged.ensures.rows
