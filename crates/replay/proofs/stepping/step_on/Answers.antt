use Rattle.std.proofs.Common.{sym, ◌∙◌, subst}
use Rattle.replay.proofs.exchanges.Emitting.{stepped}
use Rattle.replay.proofs.steps.StepTurns.{Stepping, stepping-begins, steps-last, stepping-more, steps-used_up}
use Rattle.replay.proofs.stepping.step_on.Goals as goal

pub steps-init : goal.steps-init
steps-init c = stepping-begins c.args.client.now

pub returns-then-ends_steps : goal.returns-then-ends_steps
returns-then-ends_steps c =
    steps-last c.args.client.now c.steps.client c.step.new.self c.steps.left c.in_ok-step.step c.steps.invariant c.in_ok-step.ensures.ok (sym c.ends_steps.ensures ∙ c.if-ends_steps.true)

pub returns-then-left-eq0 : goal.returns-then-left-eq0
returns-then-left-eq0 c = steps-used_up c.args.client.now c.step.new.self c.steps.left c.if-left-eq0.true
    (stepping-more c.args.client.now c.steps.client c.step.new.self c.steps.left c.in_ok-step.step c.steps.invariant c.in_ok-step.ensures.ok (sym c.ends_steps.ensures ∙ c.if-ends_steps.false))

pub steps-preserved : goal.steps-preserved
steps-preserved c = subst (λ n. Stepping c.args.client.now n c.step.new.self) (stepped c.steps.left c.if-left-eq0.false)
    (stepping-more c.args.client.now c.steps.client c.step.new.self c.steps.left c.in_ok-step.step c.steps.invariant c.in_ok-step.ensures.ok (sym c.ends_steps.ensures ∙ c.if-ends_steps.false))
