-- A plan is usable where there is a row, and there is room for it.
use Rattle.std.proofs.Common.{◌∙◌, sym}
use Rattle.history.proofs.LinkSlots.{plan-in}
use Rattle.history.proofs.steps.step_of_going.Goals as goal

pub returns-then-not-is_usable-clause-plan : goal.returns-then-not-is_usable-clause-plan
returns-then-not-is_usable-clause-plan c = λ i now. sym c.in_ok-plan.ensures.plan.usable ∙ sym c.is_usable.ensures ∙ c.if-not-is_usable.true

pub returns-clause-plan : goal.returns-clause-plan
returns-clause-plan c = λ i now. (sym c.in_ok-plan.ensures.plan.usable ∙ sym c.is_usable.ensures ∙ c.if-not-is_usable.false, c.in_ok-plan.ensures.plan.leads)

pub returns-clause-room : goal.returns-clause-room
returns-clause-room c = plan-in c.args.link.now c.gone.new.self c.in_ok-plan.plan _ c.gone.ensures.state c.in_ok-plan.ensures.plan.leads c.in_ok-plan.ensures.room
