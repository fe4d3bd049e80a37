use Rattle.std.proofs.Common.{◌≡◌, true, false, ap, sym, ◌∙◌}
use Rattle.rrset.specs.declared.record.Key.{Key}
use Rattle.coalesce.specs.Merging.{behind_key, comes_first}
use Rattle.coalesce.proofs.Merging.{takes-row, takes-value, passes-value}
use Rattle.coalesce.proofs.merged.Merged.next.Goals as goal

pub values-init : goal.values-init
values-init c = record { is = c.self.view_is; rising = c.self.invariant.0; order = c.self.invariant.1 }

pub values-preserved : goal.values-preserved
values-preserved c =
    let rows = c.values.self-inside.rows.now in
    let none : comes_first c.in-Some.value.now.0 rows ≡ false = sym (ap (λ (k : Key). comes_first k rows) c.key.ensures) ∙ c.in_default-first_before.ensures in
    passes-value c.values.self-inside.values.now rows _ c.behind_key-self-inside.result.now c.in-Some.value.now c.in-Some.others.now c.values.invariant c.in-Some.ensures.cases.0 none
    (c.behind_key-self-inside.ensures ∙ ap (λ (k : Key). behind_key k rows) c.key-in-Some.ensures) c.in_default-row.ensures

pub returns-in-Some-first_before : goal.returns-in-Some-first_before
returns-in-Some-first_before c =
    let rows = c.values.self-inside.rows.now in
    let first : comes_first c.in-Some.value.now.0 rows ≡ true = sym (ap (λ (k : Key). comes_first k rows) c.key.ensures) ∙ c.in-Some-first_before.ensures.1 in
    record { rest = (takes-row c.values.self-inside.values.now rows _ c.in-Some.value.now c.in-Some.others.now c.in-Some-first_before.row.now c.in-Some-first_before.after.now c.values.invariant c.in-Some.ensures.cases.0 c.in-Some-first_before.ensures.0 first).is }

pub returns-in-Some-row : goal.returns-in-Some-row
returns-in-Some-row c =
    let rows = c.values.self-inside.rows.now in
    let none : comes_first c.in-Some.value.now.0 rows ≡ false = sym (ap (λ (k : Key). comes_first k rows) c.key.ensures) ∙ c.in_default-first_before.ensures in
    record {
      rest = (takes-value c.values.self-inside.values.now rows _ c.behind_key-self-inside.result.now c.in-Some.value.now c.in-Some.others.now c.in-Some-row.row.now c.values.invariant c.in-Some.ensures.cases.0 none
          (c.behind_key-self-inside.ensures ∙ ap (λ (k : Key). behind_key k rows) c.key-in-Some.ensures) c.in-Some-row.ensures.0 c.in-Some-row.ensures.1).is;
    }
