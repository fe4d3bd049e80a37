use Rattle.std.proofs.Common.{◌-◌, sym, ◌∙◌, arith}
use Rattle.browsing.proofs.Reactions.{reacting-begins, reacting-more, reacts-last, reacts-out}
use Rattle.browsing.proofs.hearing.react.Goals as goal

pub steps-init : goal.steps-init
steps-init c = reacting-begins c.args.client.now

pub returns-then-is_last : goal.returns-then-is_last
returns-then-is_last c =
    reacts-last c.args.client.now c.steps.client c.step.new.self c.steps.left (c.steps.left - 1) c.in_ok-step.step (omega (arith, c.steps-test.true)) (sym c.is_last.ensures ∙ c.if-is_last.true) c.steps.invariant c.in_ok-step.ensures.ok

pub steps-preserved : goal.steps-preserved
steps-preserved c =
    reacting-more c.args.client.now c.steps.client c.step.new.self c.steps.left (c.steps.left - 1) c.in_ok-step.step (omega (arith, c.steps-test.true)) (sym c.is_last.ensures ∙ c.if-is_last.false) c.steps.invariant c.in_ok-step.ensures.ok

pub steps-preserved-else-is_last : goal.steps-preserved-else-is_last
steps-preserved-else-is_last c =
    reacting-more c.args.client.now c.steps.client c.step.new.self c.steps.left (c.steps.left - 1) c.in_ok-step.step (omega (arith, c.steps-test.true)) (sym c.is_last.ensures ∙ c.if-is_last.false) c.steps.invariant c.in_ok-step.ensures.ok

pub returns : goal.returns
returns c = reacts-out c.args.client.now c.steps.client c.steps.left (omega (arith, c.steps-test.false)) c.steps.invariant
