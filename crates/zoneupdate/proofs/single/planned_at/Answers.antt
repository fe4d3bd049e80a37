use Rattle.std.proofs.Common.{◌≡◌, ◌≤◌, ℕ, true, length, fold, map, refl, ap, subst, sym, ◌∙◌, arith}
use Rattle.std.specs.Prelude.{Option, MatchOption}
use Rattle.rrset.specs.RecordSet.{RecordSet, at_name}
use Rattle.rrset.specs.Tables.{TableState}
use Rattle.rrset.specs.declared.record.Shown.{Shown}
use Rattle.zoneupdate.specs.Zones.{ZoneState, is_zone, set_at}
use Rattle.zoneupdate.specs.Updates.{with_counted_ttl}
use Rattle.zoneupdate.specs.Singles.{IsPartFor}
use Rattle.zoneupdate.proofs.Judging.{counted-records, few-records}
use Rattle.zoneupdate.proofs.KeptZone.{zone_parts}
use Rattle.zoneupdate.proofs.OneName.{set-at_name}
use Rattle.zoneupdate.proofs.NamePlans.{before-rising, before-lower, one-soa}
use Rattle.zoneupdate.proofs.PartPlans.{less-part, shorter-part, light-named, part-nothing, part-within, part-changes}
use Rattle.zoneupdate.proofs.SoughtParts.{sought-match}
use Rattle.zoneupdate.proofs.single.planned_at.Goals as goal

pub sought_for-requires : goal.sought_for-requires
sought_for-requires c = (zone_parts (record { apex = c.args.apex.now; writable = true; rows = c.args.rows.now.rows }) c.requires.zone).set

pub part_of-before-requires-clause-order : goal.part_of-before-requires-clause-order
part_of-before-requires-clause-order c = before-rising (record { apex = c.args.apex.now; writable = true; rows = c.args.rows.now.rows }) c.args.name.now c.at-named.result.now c.requires.zone c.at-named.ensures

pub part_of-before-requires-clause-lower : goal.part_of-before-requires-clause-lower
part_of-before-requires-clause-lower c = before-lower (record { apex = c.args.apex.now; writable = true; rows = c.args.rows.now.rows }) c.args.name.now c.at-named.result.now c.requires.zone c.at-named.ensures

pub returns-then-same_rows : goal.returns-then-same_rows
returns-then-same_rows c =
    let this = c.part_of-before.ensures.part c.args.apex.now (map with_counted_ttl c.args.changes.now)
    (sought-match c.args.apex.now c.args.name.now c.args.changes.now (map with_counted_ttl c.args.changes.now) (at_name c.args.name.now c.args.rows.now.rows) c.at-named.result.now c.at-named.ensures c.requires.single c.in_ok-sought.sought c.in_ok-sought.ensures) in
    part-nothing (record { apex = c.args.apex.now; writable = true; rows = c.args.rows.now.rows }) c.args.name.now c.args.changes.now c.at-named.result.now c.part_of-before.result.now c.requires.zone c.requires.single c.at-named.ensures this c.in_ok-work.work.rows c.in_ok-work.ensures c.requires.limits c.same_rows.result c.entries.result.now c.same_rows.ensures c.entries.ensures.rows c.if-same_rows.true c.of_nothing.result c.of_nothing.ensures

pub soa_among-soas-requires : goal.soa_among-soas-requires
soa_among-soas-requires c = one-soa (record { apex = c.args.apex.now; writable = true; rows = c.args.rows.now.rows }) c.at.result.now c.requires.zone c.at.ensures

pub rise_alike-requires : goal.rise_alike-requires
rise_alike-requires c =
    ap (λ (s : RecordSet). length s) c.soa_among-soas.ensures ∙ one-soa (record { apex = c.args.apex.now; writable = true; rows = c.args.rows.now.rows }) c.at.result.now c.requires.zone c.at.ensures

pub is_within_part-requires-clause-few : goal.is_within_part-requires-clause-few
is_within_part-requires-clause-few c =
    let is = counted-records c.args.rows.now.rows c.len.result c.requires.limits c.len.ensures in
    let few = few-records c.args.rows.now.rows c.requires.limits in
    omega (arith, is, few)

pub is_within_part-requires-clause-part : goal.is_within_part-requires-clause-part
is_within_part-requires-clause-part c =
    let this = c.part_of-before.ensures.part c.args.apex.now (map with_counted_ttl c.args.changes.now)
    (sought-match c.args.apex.now c.args.name.now c.args.changes.now (map with_counted_ttl c.args.changes.now) (at_name c.args.name.now c.args.rows.now.rows) c.at-named.result.now c.at-named.ensures c.requires.single c.in_ok-sought.sought c.in_ok-sought.ensures) in
    subst (λ (n : ℕ). length c.part_of-before.result.now ≤ n) (sym (counted-records c.args.rows.now.rows c.len.result c.requires.limits c.len.ensures))
    (shorter-part (record { apex = c.args.apex.now; writable = true; rows = c.args.rows.now.rows }) c.args.name.now (map with_counted_ttl c.args.changes.now) c.at-named.result.now c.part_of-before.result.now c.requires.zone c.at-named.ensures this c.in_ok-work.work.rows c.in_ok-work.ensures)

pub is_within_part-requires-clause-light : goal.is_within_part-requires-clause-light
is_within_part-requires-clause-light c =
    let this = c.part_of-before.ensures.part c.args.apex.now (map with_counted_ttl c.args.changes.now)
    (sought-match c.args.apex.now c.args.name.now c.args.changes.now (map with_counted_ttl c.args.changes.now) (at_name c.args.name.now c.args.rows.now.rows) c.at-named.result.now c.at-named.ensures c.requires.single c.in_ok-sought.sought c.in_ok-sought.ensures) in
    light-named (record { apex = c.args.apex.now; writable = true; rows = c.args.rows.now.rows }) c.args.name.now (map with_counted_ttl c.args.changes.now) c.at-named.result.now c.part_of-before.result.now c.requires.zone c.at-named.ensures this c.in_ok-work.work.rows c.in_ok-work.ensures c.requires.limits

pub is_within_part-requires-clause-less : goal.is_within_part-requires-clause-less
is_within_part-requires-clause-less c =
    let this = c.part_of-before.ensures.part c.args.apex.now (map with_counted_ttl c.args.changes.now)
    (sought-match c.args.apex.now c.args.name.now c.args.changes.now (map with_counted_ttl c.args.changes.now) (at_name c.args.name.now c.args.rows.now.rows) c.at-named.result.now c.at-named.ensures c.requires.single c.in_ok-sought.sought c.in_ok-sought.ensures) in
    less-part (record { apex = c.args.apex.now; writable = true; rows = c.args.rows.now.rows }) c.args.name.now (map with_counted_ttl c.args.changes.now) c.at-named.result.now c.part_of-before.result.now c.requires.zone c.at-named.ensures this c.in_ok-work.work.rows c.in_ok-work.ensures

pub returns-then-not-is_within_part : goal.returns-then-not-is_within_part
returns-then-not-is_within_part c =
    let this = c.part_of-before.ensures.part c.args.apex.now (map with_counted_ttl c.args.changes.now)
    (sought-match c.args.apex.now c.args.name.now c.args.changes.now (map with_counted_ttl c.args.changes.now) (at_name c.args.name.now c.args.rows.now.rows) c.at-named.result.now c.at-named.ensures c.requires.single c.in_ok-sought.sought c.in_ok-sought.ensures) in
    sym (part-within (record { apex = c.args.apex.now; writable = true; rows = c.args.rows.now.rows }) c.args.name.now c.args.changes.now c.at-named.result.now c.part_of-before.result.now c.requires.zone c.requires.single c.at-named.ensures this c.in_ok-work.work.rows c.in_ok-work.ensures c.requires.limits c.same_rows.result c.entries.result.now c.same_rows.ensures c.entries.ensures.rows c.if-same_rows.false c.soa_among-soas.result.now (c.soa_among-soas.ensures ∙ ap (set_at c.args.apex.now 6) c.at.ensures ∙ set-at_name c.args.apex.now 1 6 c.args.rows.now.rows)
    c.rise_alike.ensures c.is_within_part.result c.len.result (counted-records c.args.rows.now.rows c.len.result c.requires.limits c.len.ensures) c.is_within_part.ensures)
    ∙ c.if-not-is_within_part.true

pub returns : goal.returns
returns c =
    let this = c.part_of-before.ensures.part c.args.apex.now (map with_counted_ttl c.args.changes.now)
    (sought-match c.args.apex.now c.args.name.now c.args.changes.now (map with_counted_ttl c.args.changes.now) (at_name c.args.name.now c.args.rows.now.rows) c.at-named.result.now c.at-named.ensures c.requires.single c.in_ok-sought.sought c.in_ok-sought.ensures) in (
      sym (part-within (record { apex = c.args.apex.now; writable = true; rows = c.args.rows.now.rows }) c.args.name.now c.args.changes.now c.at-named.result.now c.part_of-before.result.now c.requires.zone c.requires.single c.at-named.ensures this c.in_ok-work.work.rows c.in_ok-work.ensures c.requires.limits c.same_rows.result c.entries.result.now c.same_rows.ensures c.entries.ensures.rows c.if-same_rows.false c.soa_among-soas.result.now (c.soa_among-soas.ensures ∙ ap (set_at c.args.apex.now 6) c.at.ensures ∙ set-at_name c.args.apex.now 1 6 c.args.rows.now.rows)
          c.rise_alike.ensures c.is_within_part.result c.len.result (counted-records c.args.rows.now.rows c.len.result c.requires.limits c.len.ensures) c.is_within_part.ensures)
          ∙ c.if-not-is_within_part.false,
      part-changes (record { apex = c.args.apex.now; writable = true; rows = c.args.rows.now.rows }) c.args.name.now c.args.changes.now c.at-named.result.now c.part_of-before.result.now c.requires.zone c.requires.single c.at-named.ensures this c.in_ok-work.work.rows c.in_ok-work.ensures c.requires.limits c.same_rows.result c.entries.result.now c.same_rows.ensures c.entries.ensures.rows c.if-same_rows.false c.soa_among-soas.result.now (c.soa_among-soas.ensures ∙ ap (set_at c.args.apex.now 6) c.at.ensures ∙ set-at_name c.args.apex.now 1 6 c.args.rows.now.rows)
          c.in_ok-changed.changed.items c.into_entries.result.items c.into_entries.ensures.rows c.in_ok-changed.ensures,
    )
