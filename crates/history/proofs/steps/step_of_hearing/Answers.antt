-- A plan with a usable record leads to the rows of the hearing, and there is room for it.
use Rattle.history.proofs.LinkSlots.{heard-none, heard-some, plan-in}
use Rattle.history.proofs.steps.step_of_hearing.Goals as goal

pub returns-then-not-is_usable-clause-plan : goal.returns-then-not-is_usable-clause-plan
returns-then-not-is_usable-clause-plan c =
    heard-none c.args.link.now.state c.args.now c.args.hearing.now c.as_slice.result.now c.in_ok-plan.plan c.as_slice.ensures c.in_ok-plan.ensures.plan c.is_usable.result c.is_usable.ensures c.if-not-is_usable.true

pub returns-clause-plan : goal.returns-clause-plan
returns-clause-plan c =
    heard-some c.args.link.now.state c.args.now c.args.hearing.now c.as_slice.result.now c.in_ok-plan.plan c.as_slice.ensures c.in_ok-plan.ensures.plan c.is_usable.result c.is_usable.ensures c.if-not-is_usable.false

pub returns-clause-room : goal.returns-clause-room
returns-clause-room c = plan-in c.args.link.now c.hear.new.self c.in_ok-plan.plan _ c.hear.ensures.state c.in_ok-plan.ensures.plan.leads c.in_ok-plan.ensures.room
