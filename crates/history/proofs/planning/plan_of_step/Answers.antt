-- The plan of the link, and what is held of it.
use Rattle.history.proofs.HeldPlans.{told-one, held-one}
use Rattle.history.proofs.planning.plan_of_step.Goals as goal

pub returns-clause-planned : goal.returns-clause-planned
returns-clause-planned c =
    told-one c.args.homes.now c.args.moment c.args.link c.args.entry.now c.requires.concern c.in_ok-plan.plan c.told_and_held.result c.requires.home c.in_ok-plan.ensures.plan c.told_and_held.ensures.told

pub returns-clause-held : goal.returns-clause-held
returns-clause-held c = held-one c.args.homes.now c.args.moment c.args.link c.args.entry.now c.requires.concern c.in_ok-plan.plan c.told_and_held.result c.in_ok-plan.ensures.plan c.told_and_held.ensures.held
