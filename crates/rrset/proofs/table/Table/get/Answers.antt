use Rattle.std.proofs.Common.{◌≡◌, ◌∙◌, sym, ap, subst, get_or, Some}
use Rattle.rrset.specs.KeyedRows.{Rows, rows_of}
use Rattle.rrset.specs.Tables.{TableState}
use Rattle.rrset.specs.declared.record.Key.{Key}
use Rattle.rrset.proofs.Rows.{AreRows, row_stands, no_row}
use Rattle.rrset.proofs.table.Table.get.Goals as goal

pub returns-in-Ok : goal.returns-in-Ok
returns-in-Ok g c =
    let seen : c.self.inside.entries.items ≡ c.args.self.now.rows = ap (λ (t : TableState _). t.rows) c.self.view_is in
    let entry = c.index.result.now in
    (row_stands c.args.key.now c.args.self.now.rows c.in-Ok.index entry (subst AreRows seen c.self.invariant) c.in-Ok.ensures.found).found
    ∙ ap (λ (e : Key × _). Some e.1) (sym (c.index.ensures ∙ ap (λ (l : Rows _). get_or l c.in-Ok.index entry) seen))

pub returns-in-Err : goal.returns-in-Err
returns-in-Err g c = (no_row c.args.key.now c.args.self.now.rows c.in-Err.field-0 c.in-Err.ensures.absent).none
