-- A later moment changes what each link shows otherwise then.
use Rattle.std.proofs.Common.{◌∙◌, ap, sym, subst}
use Rattle.std.specs.List.{AllByRecursion}
use Rattle.nametable.specs.Nodes.{HaveRisingKeys}
use Rattle.history.specs.Laws.{gathered}
use Rattle.history.specs.Kept.{state_of, at_moment}
use Rattle.history.proofs.MomentPlans.{keys_of, rising-each, told-moment, held-moment}
use Rattle.history.proofs.planning.plan_of_moment.Goals as goal

pub gathered-requires : goal.gathered-requires
gathered-requires c =
    subst (AllByRecursion (λ p. HaveRisingKeys p.changed)) (sym c.deref.ensures.value) (rising-each c.args.later (state_of c.args.homes.now).links c.in_ok-plans.plans.items c.in_ok-plans.ensures.plans)

pub returns-clause-planned : goal.returns-clause-planned
returns-clause-planned c =
    told-moment (at_moment c.args.homes.now c.args.moment) c.args.later c.in_ok-plans.plans.items c.in_ok-changed.changed c.requires.home c.if-later-moment.false c.in_ok-plans.ensures.plans (c.in_ok-changed.ensures ∙ ap (λ ps. gathered (keys_of ps)) c.deref.ensures.value)

pub returns-clause-held : goal.returns-clause-held
returns-clause-held c = held-moment (at_moment c.args.homes.now c.args.moment) c.args.later c.in_ok-plans.plans.items c.if-later-moment.false c.in_ok-plans.ensures.plans
