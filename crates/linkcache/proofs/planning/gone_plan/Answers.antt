use Rattle.std.proofs.Common.{◌≡◌, ◌∙◌, true, sym, subst}
use Rattle.linkcache.specs.Plans.{IsGonePlan, IsPlanBetween}
use Rattle.linkcache.specs.Sound.{AreLinkRows}
use Rattle.linkcache.proofs.GoneRows.{gone-leads, nothing-gone}
use Rattle.linkcache.proofs.LeadingPlans.{if_both, rows-lower}
use Rattle.linkcache.proofs.PlanRoom.{room-empty, room-nothing, room-planned}
use Rattle.linkcache.proofs.planning.gone_plan.Goals as goal

pub all_rows-requires-clause-lower : goal.all_rows-requires-clause-lower
all_rows-requires-clause-lower c = rows-lower c.args.rules.now c.args.rows.now.rows c.requires.link.sound

pub returns-then-none_ends-clause-plan : goal.returns-then-none_ends-clause-plan
returns-then-none_ends-clause-plan c =
    nothing-gone c.args.rules.now c.args.rows.now.rows c.nothing.result c.args.ends.now.deadlines c.requires.ends (sym c.none_ends.ensures ∙ c.if-none_ends.true)
    c.nothing.ensures.usable c.nothing.ensures.rows c.nothing.ensures.changed

pub returns-then-none_ends-clause-room : goal.returns-then-none_ends-clause-room
returns-then-none_ends-clause-room c = room-nothing c.nothing.result.rows c.args.rows.now.nodes c.nothing.ensures.rows

pub plan_between-requires-clause-part : goal.plan_between-requires-clause-part
plan_between-requires-clause-part c = subst (AreLinkRows c.args.rules.now) (sym c.in_ok-part.ensures) c.requires.link.sound

pub returns-clause-room : goal.returns-clause-room
returns-clause-room c =
    room-planned c.args.rules.now c.in_ok-part.part.rows c.new-work.result.rows c.args.rows.now.nodes c.plan_between.result (room-empty c.new-work.result.rows c.args.rows.now.nodes c.new-work.ensures) c.plan_between.ensures.between

pub returns-clause-plan : goal.returns-clause-plan
returns-clause-plan c =
    if_both (λ plan. plan.usable ≡ true) (IsPlanBetween c.args.rules.now c.in_ok-part.part.rows c.new-work.result.rows) (IsGonePlan c.args.rules.now c.args.rows.now.rows)
    c.plan_between.result c.plan_between.ensures.usable c.plan_between.ensures.between
    (λ plan usable between. gone-leads c.args.rules.now c.args.rows.now.rows plan c.args.ends.now.deadlines c.requires.ends c.requires.link c.in_ok-part.part.rows c.new-work.result.rows
    (sym c.none_ends.ensures ∙ c.if-none_ends.false) c.in_ok-part.ensures c.new-work.ensures usable between)
