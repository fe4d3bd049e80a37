use Rattle.std.proofs.Common.{◌≡◌, ◌∙◌, true, sym, subst, arith}
use Rattle.linkcache.specs.Parts.{laid}
use Rattle.linkcache.specs.Plans.{IsHeardPlan, Leads}
use Rattle.linkcache.specs.Sound.{AreLinkRows}
use Rattle.linkcache.specs.Within.{IsWithin}
use Rattle.linkcache.proofs.LeadingPlans.{heard-leads, if_both, nothing-heard, rises, rows-lower}
use Rattle.linkcache.proofs.OwnerSizes.{within-heard}
use Rattle.linkcache.proofs.PlanRoom.{room-nothing}
use Rattle.linkcache.proofs.SoundSteps.{sound-heard}
use Rattle.linkcache.proofs.planning.plan_of_hearing.Goals as goal

pub returns-then-not-some_usable-clause-plan : goal.returns-then-not-some_usable-clause-plan
returns-then-not-some_usable-clause-plan c =
    nothing-heard c.args.rules.now c.args.rows.now.rows c.requires.link c.nothing.result c.args.now c.args.hearing.now (sym c.some_usable.ensures ∙ c.if-not-some_usable.true) c.nothing.ensures.usable c.nothing.ensures.rows c.nothing.ensures.changed

pub returns-then-not-some_usable-clause-room : goal.returns-then-not-some_usable-clause-room
returns-then-not-some_usable-clause-room c = room-nothing c.nothing.result.rows c.args.rows.now.nodes c.nothing.ensures.rows

pub heard-requires-clause-count : goal.heard-requires-clause-count
heard-requires-clause-count c = let few = c.requires.link.within.few in omega (arith, few)

pub heard-requires-clause-lower : goal.heard-requires-clause-lower
heard-requires-clause-lower c = rows-lower c.args.rules.now c.args.rows.now.rows c.requires.link.sound

pub plan_over-requires-clause-sound : goal.plan_over-requires-clause-sound
plan_over-requires-clause-sound c = subst (AreLinkRows c.args.rules.now) (sym c.in_ok-over.ensures) (sound-heard c.args.rules.now c.args.now c.args.hearing.now c.args.rows.now.rows c.requires.link.sound)

pub plan_over-requires-clause-within : goal.plan_over-requires-clause-within
plan_over-requires-clause-within c =
    subst (IsWithin c.args.rules.now) (sym c.in_ok-over.ensures)
    (within-heard c.args.rules.now c.args.now c.args.hearing.now c.args.rows.now.rows (rises c.args.rules.now c.args.rows.now.rows c.requires.link) c.requires.link.sound c.requires.link.within)

pub returns-clause-plan : goal.returns-clause-plan
returns-clause-plan c =
    let rules = c.args.rules.now in
    let rows = c.args.rows.now.rows in
    if_both (λ plan. plan.usable ≡ true) (λ plan. Leads rules rows plan (laid c.in_ok-over.over.rows rows)) (IsHeardPlan rules rows c.args.now c.args.hearing.now) c.plan_over.result c.plan_over.ensures.usable c.plan_over.ensures.plan
    (λ plan usable led. heard-leads rules rows c.requires.link plan c.args.now c.args.hearing.now (laid c.in_ok-over.over.rows rows) c.in_ok-over.ensures (sym c.some_usable.ensures ∙ c.if-not-some_usable.false) usable led)
