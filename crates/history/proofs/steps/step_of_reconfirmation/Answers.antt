-- There is room for the plan.
use Rattle.history.proofs.LinkSlots.{plan-in}
use Rattle.history.proofs.steps.step_of_reconfirmation.Goals as goal

pub returns-clause-room : goal.returns-clause-room
returns-clause-room c = plan-in c.args.link.now c.reconfirm.new.self c.in_ok-plan.plan _ c.reconfirm.ensures.state c.in_ok-plan.ensures.plan.leads c.in_ok-plan.ensures.room
