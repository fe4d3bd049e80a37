use Rattle.std.proofs.Common.{◌≡◌, ◌∙◌, sym, ap, subst, take, ◌++◌, ◌∷◌, [], arith}
use Rattle.std.proofs.lemmas.List.{take_all, take_more}
use Rattle.rrset.specs.KeyedRows.{Rows, rows_of}
use Rattle.rrset.specs.Tables.{TableState}
use Rattle.rrset.specs.declared.record.Key.{Key}
use Rattle.rrset.proofs.Rows.{AreRows}
use Rattle.rrset.proofs.table.Table.copy.Goals as goal

pub entries-init : goal.entries-init
entries-init g c = c.in_ok-entries.ensures.items

pub entries-preserved : goal.entries-preserved
entries-preserved g c =
    let rows = c.deref-entry-items.result.now in
    let entry = c.entry-item.result in
    let copied : (c.in_ok-key.key, c.in_ok-value.value) ≡ entry = λ i. (c.in_ok-key.ensures i, c.in_ok-value.ensures i) in
    c.in_ok-push.ensures.items
    ∙ ap (λ (l : Rows _). l ++ (c.in_ok-key.key, c.in_ok-value.value) ∷ []) c.entries.invariant
    ∙ ap (λ (e : Key × _). take c.entries.entry-index rows ++ e ∷ []) (copied ∙ c.entry-item.is)
    ∙ sym (take_more rows c.entries.entry-index entry (omega arith))

pub invariant_of-result : goal.invariant_of-result
invariant_of-result g c =
    let all = c.entries.invariant ∙ take_all c.entries.entry-index c.deref-entry-items.result.now c.entries-test.false ∙ c.deref-entry-items.ensures.value in
    subst AreRows (sym all) c.self.invariant

pub returns : goal.returns
returns g c =
    c.entries.invariant ∙ take_all c.entries.entry-index c.deref-entry-items.result.now c.entries-test.false ∙ c.deref-entry-items.ensures.value ∙ ap (λ (t : TableState _). t.rows) c.self.view_is
