-- The values of the rows that all plans make.
use Rattle.std.proofs.Common.{ap, ◌∙◌}
use Rattle.std.proofs.lemmas.Result.{IfOk-weaker}
use Rattle.history.proofs.MergedChanges.{nows, gathered-values}
use Rattle.history.proofs.gathering.gathered_changes.Goals as goal

pub returns : goal.returns
returns c = IfOk-weaker c.copies.result _ _ (λ copies is. gathered-values c.args.plans.now (nows c.in_ok-all.all.items) copies.items c.in_ok-all.ensures (is ∙ ap nows c.deref.ensures.value)) c.copies.ensures
