-- The plan of the update, and what is held of it.
use Rattle.std.proofs.Common.{subst, ap, ◌∙◌}
use Rattle.history.specs.HeldPlans.{Checks}
use Rattle.history.specs.Kept.{at_moment}
use Rattle.history.specs.declared.plan.Planned.TheVariants as plans
use Rattle.history.proofs.HeldPlans.{told-refused, held-refused, told-accepted, held-accepted}
use Rattle.history.proofs.planning.plan_of_update.Goals as goal

pub returns-in-Refuse-clause-planned : goal.returns-in-Refuse-clause-planned
returns-in-Refuse-clause-planned c = told-refused (at_moment c.args.homes.now c.args.moment) c.args.update.now c.in-Refuse.code (subst (Checks (at_moment c.args.homes.now c.args.moment) c.args.update.now) c.in-Refuse.is (c.in_ok-code.ensures.checked c.args.moment c.requires))

pub returns-in-Refuse-clause-held : goal.returns-in-Refuse-clause-held
returns-in-Refuse-clause-held c = held-refused (at_moment c.args.homes.now c.args.moment) c.args.update.now c.in-Refuse.code (subst (Checks (at_moment c.args.homes.now c.args.moment) c.args.update.now) c.in-Refuse.is (c.in_ok-code.ensures.checked c.args.moment c.requires))

pub returns-in_ok-changed-in-Accept-clause-planned : goal.returns-in_ok-changed-in-Accept-clause-planned
returns-in_ok-changed-in-Accept-clause-planned c =
    ap (λ keys. plans.Accept keys) (c.in_ok-changed-in-Accept.ensures ∙ c.as_slice.ensures)
    ∙ told-accepted (at_moment c.args.homes.now c.args.moment) c.args.update.now c.in-Accept.index c.in-Accept.plan (subst (Checks (at_moment c.args.homes.now c.args.moment) c.args.update.now) c.in-Accept.is (c.in_ok-code.ensures.checked c.args.moment c.requires))

pub returns-in_ok-changed-in-Accept-clause-held : goal.returns-in_ok-changed-in-Accept-clause-held
returns-in_ok-changed-in-Accept-clause-held c =
    held-accepted (at_moment c.args.homes.now c.args.moment) c.args.update.now c.in-Accept.index c.in-Accept.plan (subst (Checks (at_moment c.args.homes.now c.args.moment) c.args.update.now) c.in-Accept.is (c.in_ok-code.ensures.checked c.args.moment c.requires))
