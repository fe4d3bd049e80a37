use Rattle.std.proofs.Common.{◌≡◌, ◌∙◌, sym, ap, subst}
use Rattle.rrset.specs.KeyedRows.{Rows, put_row}
use Rattle.rrset.specs.Tables.{HasLowerOwner, TableState}
use Rattle.rrset.specs.declared.record.Key.{Key}
use Rattle.rrset.proofs.LowerNames.{lower-twice}
use Rattle.linkcache.specs.Flushed.{AreFlushed}
use Rattle.linkcache.specs.Parts.{laid}
use Rattle.linkcache.specs.Rows.{LinkRows, flushed_by}
use Rattle.linkcache.specs.declared.row.HeardRow.{HeardRow}
use Rattle.linkcache.proofs.FlushedSets.{more-flushed}
use Rattle.linkcache.proofs.PlanRoom.{if_ok}
use Rattle.linkcache.proofs.heard_rows.flush_once.Goals as goal

pub put-requires : goal.put-requires
put-requires c = subst HasLowerOwner (sym c.in_ok-set.ensures) (lower-twice c.args.heard.now.rr.owner)

pub returns-clause-sets : goal.returns-clause-sets
returns-clause-sets c =
    let now = c.args.now in
    let h = c.args.heard.now in
    let rows = c.args.rows.now.rows in
    let work = laid c.args.over.rows rows in
    if_ok (λ (later : TableState HeardRow). laid later.rows rows ≡ flushed_by now work h) (λ (later : TableState HeardRow). AreFlushed now c.put.new.self.rows (laid later.rows rows)) c.flush.result c.flush.ensures
    (λ later is. subst (λ (l : LinkRows). AreFlushed now c.put.new.self.rows l) (sym is)
    (subst (λ (s : Rows _). AreFlushed now s (flushed_by now work h)) (sym (c.in_ok-put.ensures.rows ∙ ap (λ (k : Key). put_row k _ c.args.sets.now.rows) c.in_ok-set.ensures))
    (more-flushed now _ c.args.sets.now.rows work h c.requires.sets)))
