use Rattle.std.proofs.Common.{◌≡◌, ◌∙◌, Option, Some, sym, ap, subst}
use Rattle.std.specs.Result.{IfOk}
use Rattle.linkcache.specs.declared.row.HeardRow.{HeardRow}
use Rattle.linkcache.proofs.LaidRows.{row-over, row-under}
use Rattle.linkcache.proofs.laying.row_of.Goals as goal

pub returns-in_ok-copied-in-Some : goal.returns-in_ok-copied-in-Some
returns-in_ok-copied-in-Some c = ap (λ (row : HeardRow). Some row) c.in_ok-copied-in-Some.ensures ∙ sym (row-over c.args.key.now c.args.over.now.rows c.args.rows.now.rows c.in-Some.row.now c.in-Some.ensures)

pub returns-in-None : goal.returns-in-None
returns-in-None c = subst (λ (o : Option HeardRow). IfOk c.copy_of.result (λ row. row ≡ o)) (sym (row-under c.args.key.now c.args.over.now.rows c.args.rows.now.rows c.in-None.ensures)) c.copy_of.ensures
