use Rattle.std.proofs.Common.{◌∙◌, T, [], fold, sym, ap, subst}
use Rattle.rrset.specs.KeyedRows.{is_rising}
use Rattle.linkcache.specs.Parts.{copied, laid}
use Rattle.linkcache.specs.Plans.{IsPlanBetween, Leads}
use Rattle.linkcache.specs.Rows.{LinkRows}
use Rattle.linkcache.proofs.KeyedParts.{Rising}
use Rattle.linkcache.proofs.LaidRows.{before-sound, over-leads, over-sound}
use Rattle.linkcache.proofs.LeadingPlans.{rises, rows-lower}
use Rattle.linkcache.proofs.PlanRoom.{if_ok, room-planned}
use Rattle.linkcache.proofs.planning.plan_over.Goals as goal

pub rows_under-requires : goal.rows_under-requires
rows_under-requires c = rows-lower c.args.rules.now c.args.rows.now.rows c.requires.link.sound

pub plan_between-requires-clause-part : goal.plan_between-requires-clause-part
plan_between-requires-clause-part c =
    before-sound c.args.rules.now c.args.rows.now.rows c.args.over.now.rows c.requires.link c.in_ok-before.before.rows
    (c.in_ok-before.ensures ∙ ap (λ (l : LinkRows). fold (λ part e. copied c.args.rows.now.rows part e.0) [] l) c.entries.ensures.rows)

pub plan_between-requires-clause-work : goal.plan_between-requires-clause-work
plan_between-requires-clause-work c =
    let g : Rising c.args.over.now.rows = subst T (sym (ap is_rising (sym c.entries.ensures.rows) ∙ c.entries.ensures.order)) tt in
    over-sound c.args.rules.now c.args.rows.now.rows c.args.over.now.rows (rises c.args.rules.now c.args.rows.now.rows c.requires.link) g c.requires.sound

pub returns-clause-plan : goal.returns-clause-plan
returns-clause-plan c =
    let rows = c.args.rows.now.rows in
    let over = c.args.over.now.rows in
    let g : Rising over = subst T (sym (ap is_rising (sym c.entries.ensures.rows) ∙ c.entries.ensures.order)) tt in
    let before = c.in_ok-before.ensures ∙ ap (λ (l : LinkRows). fold (λ part e. copied rows part e.0) [] l) c.entries.ensures.rows in
    if_ok (IsPlanBetween c.args.rules.now c.in_ok-before.before.rows over) (λ plan. Leads c.args.rules.now rows plan (laid over rows)) c.plan_between.result c.plan_between.ensures.between
    (λ plan between. over-leads c.args.rules.now rows over c.requires.link c.in_ok-before.before.rows plan g before c.requires.sound c.requires.within between)

pub returns-clause-room : goal.returns-clause-room
returns-clause-room c = room-planned c.args.rules.now c.in_ok-before.before.rows c.args.over.now.rows c.reserve_for_rows.new.self.nodes c.plan_between.result c.in_ok-reserve_for_rows.ensures.room c.plan_between.ensures.between
