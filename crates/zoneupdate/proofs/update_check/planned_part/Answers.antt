use Rattle.std.proofs.Common.{◌≤◌, ℕ, true, length, ap, subst, sym, ◌∙◌, arith}
use Rattle.zoneupdate.proofs.Judging.{few-records, counted-records, before-length, plan-within, plan-changes}
use Rattle.rrset.specs.RecordSet.{changes, is_record_set}
use Rattle.zoneupdate.specs.Touched.{is_touched}
use Rattle.zoneupdate.proofs.Filters.{holds}
use Rattle.zoneupdate.proofs.RecordSets.{set-only}
use Rattle.zoneupdate.proofs.SideBySide.{differences-changes}
use Rattle.zoneupdate.proofs.update_check.planned_part.Goals as goal

pub changed_part-requires : goal.changed_part-requires
changed_part-requires c = ap is_record_set c.in_ok-before.ensures ∙ set-only (is_touched c.args.apex.now c.args.changes.now) c.args.rows.now.rows c.requires.set

pub is_within-requires-clause-few : goal.is_within-requires-clause-few
is_within-requires-clause-few c =
    let is = counted-records c.args.rows.now.rows c.len.result c.requires.limits c.len.ensures in
    let few = few-records c.args.rows.now.rows c.requires.limits in
    omega (arith, is, few)

pub is_within-requires-clause-part : goal.is_within-requires-clause-part
is_within-requires-clause-part c =
    subst (λ (n : ℕ). length c.in_ok-before.before.rows ≤ n) (sym (counted-records c.args.rows.now.rows c.len.result c.requires.limits c.len.ensures))
    (before-length (record { apex = c.args.apex.now; writable = true; rows = c.args.rows.now.rows }) c.args.changes.now c.in_ok-before.before.rows c.in_ok-work.work.rows c.requires.set c.in_ok-before.ensures c.in_ok-work.ensures)

pub returns-then-not-is_within : goal.returns-then-not-is_within
returns-then-not-is_within c =
    sym (plan-within (record { apex = c.args.apex.now; writable = true; rows = c.args.rows.now.rows }) c.args.changes.now c.in_ok-before.before.rows c.in_ok-work.work.rows c.requires.set c.in_ok-before.ensures c.in_ok-work.ensures
    c.requires.limits c.is_within.result c.len.result (counted-records c.args.rows.now.rows c.len.result c.requires.limits c.len.ensures) c.is_within.ensures)
    ∙ c.if-not-is_within.true

pub returns : goal.returns
returns c = (
  sym (plan-within (record { apex = c.args.apex.now; writable = true; rows = c.args.rows.now.rows }) c.args.changes.now c.in_ok-before.before.rows c.in_ok-work.work.rows c.requires.set c.in_ok-before.ensures c.in_ok-work.ensures
      c.requires.limits c.is_within.result c.len.result (counted-records c.args.rows.now.rows c.len.result c.requires.limits c.len.ensures) c.is_within.ensures)
      ∙ c.if-not-is_within.false,
  c.in_ok-changed.ensures
      ∙ differences-changes c.entries.result.now c.into_entries.result.items (holds _ c.entries.ensures.order) (holds _ c.into_entries.ensures.order)
      ∙ (λ i. changes (c.entries.ensures.rows i) (c.into_entries.ensures.rows i))
      ∙ plan-changes (record { apex = c.args.apex.now; writable = true; rows = c.args.rows.now.rows }) c.args.changes.now c.in_ok-before.before.rows c.in_ok-work.work.rows c.requires.set c.in_ok-before.ensures c.in_ok-work.ensures,
)
