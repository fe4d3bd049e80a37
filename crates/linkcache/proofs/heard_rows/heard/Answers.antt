use Rattle.std.proofs.Common.{◌≡◌, ◌∙◌, filter, fold, ap}
use Rattle.rrset.specs.Tables.{TableState}
use Rattle.linkcache.specs.Parts.{laid}
use Rattle.linkcache.specs.Rows.{LinkRows, flushed_by, heard, put_heard, usable_of}
use Rattle.linkcache.specs.declared.row.HeardRow.{HeardRow}
use Rattle.linkcache.proofs.PlanRoom.{if_ok}
use Rattle.linkcache.proofs.heard_rows.heard.Goals as goal

pub returns : goal.returns
returns c =
    let rules = c.args.rules.now in
    let rows = c.args.rows.now.rows in
    let usable = usable_of rules c.args.hearing.now in
    if_ok (λ (later : TableState HeardRow). laid later.rows rows ≡ fold (flushed_by c.args.now) (laid c.put_usable.new.over.rows rows) (filter (λ h. h.flush) usable)) (λ (later : TableState HeardRow). laid later.rows rows ≡ heard rules rows c.args.now c.args.hearing.now)
    c.flush_all.result c.flush_all.ensures
    (λ later is. is ∙ ap (λ (l : LinkRows). fold (flushed_by c.args.now) l (filter (λ h. h.flush) usable)) (c.in_ok-put_usable.ensures ∙ ap (λ (l : LinkRows). fold (put_heard rules c.args.now 0) (laid l rows) usable) c.new-over.ensures))
