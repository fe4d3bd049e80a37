use Rattle.std.proofs.Common.{◌≡◌, ◌∙◌, ◌||◌, T, sym, ap, subst}
use Rattle.rrset.specs.declared.record.Key.{Key}
use Rattle.linkcache.specs.Parts.{laid}
use Rattle.linkcache.specs.Rows.{has_key, row_has_room}
use Rattle.linkcache.proofs.KeptSizes.{taken-again}
use Rattle.linkcache.proofs.LaidRows.{rising-laid}
use Rattle.linkcache.proofs.PlanRoom.{if_ok}
use Rattle.linkcache.proofs.room.may_stand.Goals as goal

pub returns-then-has-clause-taken : goal.returns-then-has-clause-taken
returns-then-has-clause-taken c now =
    let rows = c.args.rows.now.rows in
    let over = c.args.over.now.rows in
    let taken = c.args.taken.now in
    taken-again c.args.rules.now now (laid over rows) c.args.heard.now taken.rows taken.sizes.rows (rising-laid over rows (subst T (sym c.requires.order) tt)) c.requires.later
    (ap (λ (k : Key). has_key k (laid over rows)) (sym c.requires.key) ∙ sym c.has.ensures ∙ c.if-has.true) c.requires.taken

pub take_room-requires-clause-absent : goal.take_room-requires-clause-absent
take_room-requires-clause-absent c = ap (λ (k : Key). has_key k (laid c.args.over.now.rows c.args.rows.now.rows)) (sym c.requires.key) ∙ sym c.has.ensures ∙ c.if-has.false

pub returns-clause-may : goal.returns-clause-may
returns-clause-may c =
    let work = laid c.args.over.now.rows c.args.rows.now.rows in
    let room = row_has_room c.args.rules.now 0 work c.args.heard.now.rr in
    if_ok (λ may. may ≡ room) (λ may. may ≡ (has_key c.args.key.now work || room)) c.take_room.result c.take_room.ensures.room (λ may is. is ∙ ap (λ b. b || room) (sym (sym c.has.ensures ∙ c.if-has.false)))
