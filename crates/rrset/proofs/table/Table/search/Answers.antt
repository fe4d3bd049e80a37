use Rattle.std.proofs.Common.{◌≡◌, ◌∙◌, sym, ap, subst, rules, of_calls}
use Rattle.std.specs.Result.{IfOk, IfErr}
use Rattle.rrset.specs.Records.{key_cmp}
use Rattle.rrset.specs.KeyedRows.{Rows, rows_of}
use Rattle.rrset.specs.Tables.{TableState, IsAt, IsGapFor}
use Rattle.rrset.proofs.Rows.{AreRows, position-from_clause, search_found, search_absent}
use Rattle.rrset.proofs.table.Table.search.Goals as goal

pub returns-clause-found : goal.returns-clause-found
returns-clause-found g c =
    let seen : c.deref.result.now ≡ c.args.self.now.rows = c.deref.ensures.value ∙ ap (λ (t : TableState _). t.rows) c.self.view_is in
    let r = c.binary_search_by.result in
    let answer = position-from_clause (λ e. key_cmp e.0 c.args.key.now) c.deref.result.now r c.binary_search_by.ensures.position (λ a b f k. search (rules, of_calls)) in
    subst (λ (l : Rows _). IfOk r (IsAt c.args.key.now l)) seen (search_found c.args.key.now c.deref.result.now r c.binary_search_by.ensures.bound answer)

pub returns-clause-absent : goal.returns-clause-absent
returns-clause-absent g c =
    let seen : c.deref.result.now ≡ c.args.self.now.rows = c.deref.ensures.value ∙ ap (λ (t : TableState _). t.rows) c.self.view_is in
    let r = c.binary_search_by.result in
    let answer = position-from_clause (λ e. key_cmp e.0 c.args.key.now) c.deref.result.now r c.binary_search_by.ensures.position (λ a b f k. search (rules, of_calls)) in
    subst (λ (l : Rows _). IfErr r (IsGapFor c.args.key.now l)) seen
    (search_absent c.args.key.now c.deref.result.now r (subst AreRows (sym c.deref.ensures.value) c.self.invariant) c.binary_search_by.ensures.bound answer)
