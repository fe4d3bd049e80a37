use Rattle.std.proofs.Common.{◌≡◌, ◌∙◌, false, sym}
use Rattle.linkcache.specs.Ends.{is_due}
use Rattle.linkcache.specs.Plans.{IsMomentPlan, IsPlanBetween}
use Rattle.linkcache.proofs.DueRows.{due-part}
use Rattle.linkcache.proofs.LeadingPlans.{if_both, moment-leads, nothing-due, part-sound, rises, rows-lower}
use Rattle.linkcache.proofs.PlanRoom.{room-empty, room-nothing, room-planned}
use Rattle.linkcache.proofs.planning.moment_plan.Goals as goal

pub returns-then-not-some_due-clause-plan : goal.returns-then-not-some_due-clause-plan
returns-then-not-some_due-clause-plan c =
    nothing-due c.args.rules.now c.args.rows.now.rows c.requires.link c.nothing.result c.args.now c.args.ends.now.deadlines c.some_due.ensures.order c.requires.ends (sym c.some_due.ensures.due ∙ c.if-not-some_due.true)
    c.nothing.ensures.usable c.nothing.ensures.rows c.nothing.ensures.changed

pub due_rows-requires : goal.due_rows-requires
due_rows-requires c = rows-lower c.args.rules.now c.args.rows.now.rows c.requires.link.sound

pub plan_between-requires-clause-part : goal.plan_between-requires-clause-part
plan_between-requires-clause-part c =
    part-sound c.args.rules.now (is_due c.args.now c.args.ends.now.deadlines) c.args.rows.now.rows c.in_ok-part.part.rows c.requires.link.sound
    (c.in_ok-part.ensures ∙ due-part c.args.now c.args.ends.now.deadlines c.args.rows.now.rows (rises c.args.rules.now c.args.rows.now.rows c.requires.link))

pub returns-then-not-some_due-clause-room : goal.returns-then-not-some_due-clause-room
returns-then-not-some_due-clause-room c = room-nothing c.nothing.result.rows c.args.rows.now.nodes c.nothing.ensures.rows

pub returns-clause-room : goal.returns-clause-room
returns-clause-room c =
    room-planned c.args.rules.now c.in_ok-part.part.rows c.new-work.result.rows c.args.rows.now.nodes c.plan_between.result (room-empty c.new-work.result.rows c.args.rows.now.nodes c.new-work.ensures) c.plan_between.ensures.between

pub returns-clause-plan : goal.returns-clause-plan
returns-clause-plan c =
    if_both (λ plan. plan.usable ≡ false) (IsPlanBetween c.args.rules.now c.in_ok-part.part.rows c.new-work.result.rows) (IsMomentPlan c.args.rules.now c.args.rows.now.rows c.args.now)
    c.plan_between.result c.plan_between.ensures.usable c.plan_between.ensures.between
    (λ plan usable between. moment-leads c.args.rules.now c.args.rows.now.rows c.requires.link plan c.args.now c.args.ends.now.deadlines c.in_ok-part.part.rows c.new-work.result.rows c.some_due.ensures.order c.requires.ends
    (c.in_ok-part.ensures ∙ due-part c.args.now c.args.ends.now.deadlines c.args.rows.now.rows (rises c.args.rules.now c.args.rows.now.rows c.requires.link)) c.new-work.ensures usable between)
