use Rattle.std.proofs.Common.{◌≡◌, ◌∙◌, sym, ap, subst, get_or, Option, Some, is_some, arith}
use Rattle.std.specs.List.{remove}
use Rattle.rrset.specs.KeyedRows.{Rows, rows_of}
use Rattle.rrset.specs.Tables.{TableState}
use Rattle.rrset.specs.declared.record.Key.{Key}
use Rattle.rrset.proofs.Rows.{AreRows, Removes, row_stands, no_row, removed}
use Rattle.rrset.proofs.table.Table.remove.Goals as goal

removes : (g : _) (c : goal.After-drop-remove-in-Ok g) → Removes c.args.key.now c.args.self.now.rows c.remove-value.new.self.items
removes g c =
    let seen : c.self.inside.entries.items ≡ c.args.self.now.rows = ap (λ (t : TableState _). t.rows) c.self.view_is in
    removed c.args.key.now c.args.self.now.rows _ c.in-Ok.index c.remove-value.result (subst AreRows seen c.self.invariant) c.in-Ok.ensures.found
    (c.remove-value.ensures.items ∙ ap (λ (l : Rows _). remove l c.in-Ok.index) seen)

pub invariant_of-self : goal.invariant_of-self
invariant_of-self g c = (removes g c).are

pub returns-in-Ok-clause-value : goal.returns-in-Ok-clause-value
returns-in-Ok-clause-value g c =
    let seen : c.self.inside.entries.items ≡ c.args.self.now.rows = ap (λ (t : TableState _). t.rows) c.self.view_is in
    let entry = c.remove-value.result in
    sym ((row_stands c.args.key.now c.args.self.now.rows c.in-Ok.index entry (subst AreRows seen c.self.invariant) c.in-Ok.ensures.found).found
    ∙ ap (λ (e : Key × _). Some e.1) (sym (c.remove-value.ensures.value ∙ ap (λ (l : Rows _). get_or l c.in-Ok.index entry) seen)))

pub returns-in-Ok-clause-rows : goal.returns-in-Ok-clause-rows
returns-in-Ok-clause-rows g c = (removes g c).is

pub returns-in-Err-clause-value : goal.returns-in-Err-clause-value
returns-in-Err-clause-value g c = sym (no_row c.args.key.now c.args.self.now.rows c.in-Err.field-0 c.in-Err.ensures.absent).none

pub returns-in-Err-clause-rows : goal.returns-in-Err-clause-rows
returns-in-Err-clause-rows g c = sym (no_row c.args.key.now c.args.self.now.rows c.in-Err.field-0 c.in-Err.ensures.absent).left

pub returns-in-Ok-clause-freed : goal.returns-in-Ok-clause-freed
returns-in-Ok-clause-freed g c = λ there.
    let spare = ap (λ (t : TableState _). t.spare) c.self.view_is in
    omega (arith, spare, c.self.inside.entries.ok.1, c.remove-value.ensures.len, c.remove-value.ensures.capacity)

pub returns-in-Err-clause-freed : goal.returns-in-Err-clause-freed
returns-in-Err-clause-freed g c =
    let none = ap (λ (o : Option _). is_some o) (no_row c.args.key.now c.args.self.now.rows c.in-Err.field-0 c.in-Err.ensures.absent).none in
    λ there. absurd cc
