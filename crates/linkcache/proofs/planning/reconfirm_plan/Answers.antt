use Rattle.std.proofs.Common.{◌≡◌, ◌∙◌, false, sym, ap, subst}
use Rattle.linkcache.specs.Parts.{laid}
use Rattle.linkcache.specs.Plans.{IsReconfirmPlan, Leads}
use Rattle.linkcache.specs.Rows.{LinkRows, reconfirmed}
use Rattle.linkcache.specs.Sound.{AreLinkRows}
use Rattle.linkcache.specs.Within.{IsWithin}
use Rattle.linkcache.proofs.LeadingPlans.{if_both, key-lower, nothing-reconfirmed, reconfirm-leads}
use Rattle.linkcache.proofs.OwnerSizes.{within-reconfirmed}
use Rattle.linkcache.proofs.PlanRoom.{room-nothing}
use Rattle.linkcache.proofs.SoundSteps.{sound-reconfirmed}
use Rattle.linkcache.proofs.planning.reconfirm_plan.Goals as goal

pub returns-then-not-has_row-clause-plan : goal.returns-then-not-has_row-clause-plan
returns-then-not-has_row-clause-plan c = nothing-reconfirmed c.args.rules.now c.args.rows.now.rows c.requires.link c.nothing.result c.args.key.now c.args.now (sym c.has_row.ensures ∙ c.if-not-has_row.true) c.nothing.ensures.usable c.nothing.ensures.rows c.nothing.ensures.changed

pub returns-then-not-has_row-clause-room : goal.returns-then-not-has_row-clause-room
returns-then-not-has_row-clause-room c = room-nothing c.nothing.result.rows c.args.rows.now.nodes c.nothing.ensures.rows

pub end_row-requires-clause-lower : goal.end_row-requires-clause-lower
end_row-requires-clause-lower c = key-lower c.args.rules.now c.args.rows.now.rows c.requires.link c.args.key.now (sym c.has_row.ensures ∙ c.if-not-has_row.false)

pub plan_over-requires-clause-sound : goal.plan_over-requires-clause-sound
plan_over-requires-clause-sound c =
    let rows = c.args.rows.now.rows in
    let is = c.in_ok-end_row.ensures ∙ ap (λ (l : LinkRows). reconfirmed (laid l rows) c.args.key.now c.args.now) c.new-over.ensures in
    subst (AreLinkRows c.args.rules.now) (sym is) (sound-reconfirmed c.args.rules.now c.args.key.now c.args.now rows c.requires.link.sound)

pub plan_over-requires-clause-within : goal.plan_over-requires-clause-within
plan_over-requires-clause-within c =
    let rows = c.args.rows.now.rows in
    let is = c.in_ok-end_row.ensures ∙ ap (λ (l : LinkRows). reconfirmed (laid l rows) c.args.key.now c.args.now) c.new-over.ensures in
    subst (IsWithin c.args.rules.now) (sym is) (within-reconfirmed c.args.rules.now c.args.key.now c.args.now rows c.requires.link.within)

pub returns-clause-plan : goal.returns-clause-plan
returns-clause-plan c =
    let rules = c.args.rules.now in
    let rows = c.args.rows.now.rows in
    let is = c.in_ok-end_row.ensures ∙ ap (λ (l : LinkRows). reconfirmed (laid l rows) c.args.key.now c.args.now) c.new-over.ensures in
    if_both (λ plan. plan.usable ≡ false) (λ plan. Leads rules rows plan (laid c.end_row.new.over.rows rows)) (IsReconfirmPlan rules rows c.args.key.now c.args.now) c.plan_over.result c.plan_over.ensures.usable c.plan_over.ensures.plan
    (λ plan usable led. reconfirm-leads rules rows c.requires.link plan c.args.key.now c.args.now (laid c.end_row.new.over.rows rows) is usable led)
