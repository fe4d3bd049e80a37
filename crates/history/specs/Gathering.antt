-- The changes of several plans in one table.
--     changed_rows changed      changes as rows, each at its key
--     gathered_rows plans      the changes of plans as rows in key order: of a key that stands in several, the last plan's
use Rattle.std.specs.Prelude.{List, [], map, fold, flat_map}
use Rattle.rrset.specs.KeyedRows.{Rows}
use Rattle.rrset.specs.declared.record.Changed.{Changed}
use Rattle.linkcache.specs.Plans.{LinkPlan}
use Rattle.history.specs.Laws.{with_change}

abbrev pub changed_rows : List Changed → Rows Changed
changed_rows changed = map (λ c. (c.key, c)) changed

abbrev pub gathered_rows : List LinkPlan → Rows Changed
gathered_rows plans = fold with_change [] (flat_map (λ changed. changed) (map (λ p. p.changed) plans))
