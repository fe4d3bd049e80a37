use Rattle.std.proofs.Common.{◌≡◌, ℕ, true, cond, sym, ap, subst, ◌∙◌, rules, of_calls}
use Rattle.std.specs.Prelude.{Option, Some, is_some}
use Rattle.std.specs.List.{insert}
use Rattle.rrset.specs.Records.{key_cmp}
use Rattle.rrset.specs.KeyedRows.{Rows, is_rising, put_row, row_at}
use Rattle.rrset.specs.declared.record.Key.{Key}
use Rattle.rrset.proofs.Places.{GoesTo}
use Rattle.rrset.proofs.Rows.{position-from_clause}
use Rattle.coalesce.specs.Waiting.{OldValue, and_value}
use Rattle.coalesce.proofs.OneSide.{stands, goes}
use Rattle.coalesce.proofs.waiting.keep_value.Goals as goal

-- a key that is found is kept already
there : (old : Key × OldValue) (values : Rows OldValue) (value : OldValue) → row_at old.0 values ≡ Some value → values ≡ and_value old values
there old values value found = sym (ap (λ (o : Option OldValue). cond (is_some o) values (put_row old.0 old.1 values)) found)

-- one that is not is put where it goes
put-in : (old : Key × OldValue) (values : Rows OldValue) (place : ℕ) → GoesTo key_cmp old.0 values place → insert values place old ≡ and_value old values
put-in old values place gap = sym (ap (λ (o : Option OldValue). cond (is_some o) values (put_row old.0 old.1 values)) gap.none ∙ gap.puts old.1)

pub returns-in-Ok-clause-ok : goal.returns-in-Ok-clause-ok
returns-in-Ok-clause-ok c =
    let values = c.deref.result.now in
    let r = c.binary_search_by.result in
    let position = position-from_clause (λ e. key_cmp e.0 c.args.old.now.0) values r c.binary_search_by.ensures.position (λ a b f k. search (rules, of_calls)) in
    let order : is_rising values ≡ true = ap (λ (l : Rows OldValue). is_rising l) c.deref.ensures.value ∙ c.requires in
    let found = (stands c.args.old.now.0 values r c.in-Ok.field-0 c.args.old.now order c.in-Ok.is c.binary_search_by.ensures.bound position).found in
    there c.args.old.now c.args.values.now.items _ (sym (ap (λ (l : Rows OldValue). row_at c.args.old.now.0 l) c.deref.ensures.value) ∙ found)

pub returns-in_ok-insert-in-Err-clause-ok : goal.returns-in_ok-insert-in-Err-clause-ok
returns-in_ok-insert-in-Err-clause-ok c =
    let values = c.deref.result.now in
    let r = c.binary_search_by.result in
    let position = position-from_clause (λ e. key_cmp e.0 c.args.old.now.0) values r c.binary_search_by.ensures.position (λ a b f k. search (rules, of_calls)) in
    let order : is_rising values ≡ true = ap (λ (l : Rows OldValue). is_rising l) c.deref.ensures.value ∙ c.requires in
    let gap = goes c.args.old.now.0 values r c.in-Err.place order c.in-Err.is c.binary_search_by.ensures.bound position in
    c.in_ok-insert-in-Err.ensures.items
    ∙ ap (λ (e : Key × OldValue). insert c.args.values.now.items c.in-Err.place e) c.in_ok-shared-in-Err.ensures
    ∙ put-in c.args.old.now c.args.values.now.items c.in-Err.place (subst (λ (l : Rows OldValue). GoesTo key_cmp c.args.old.now.0 l c.in-Err.place) c.deref.ensures.value gap)
