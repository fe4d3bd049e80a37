use Rattle.std.proofs.Common.{◌≡◌, ◌≤◌, length, map}
use Rattle.std.specs.List.{AllByRecursion}
use Rattle.rrset.specs.Tables.{HasLowerOwner}
use Rattle.nametable.specs.Nodes.{HasRoomFor}
use Rattle.linkcache.specs.Ends.{AreEnds}
use Rattle.linkcache.specs.Plans.{keys_put, with_row_changes}
use Rattle.linkcache.proofs.apply_plan.make_changes.Given as goal

abbrev pub invariant-changes : goal.invariant-changes
invariant-changes l = AllByRecursion (λ r. HasLowerOwner r.change.key) l.change-iterator.rest.items
    × AllByRecursion (λ r. r.again ≡ r.change.key) l.change-iterator.rest.items
    × AreEnds l.ends.deadlines l.rows.rows
    × HasRoomFor (keys_put (map (λ r. r.change) l.change-iterator.rest.items)) l.rows.nodes
    × (length l.change-iterator.rest.items ≤ l.ends.spare)
    × (with_row_changes (map (λ r. r.change) l.change-iterator.rest.items) l.rows.rows ≡ with_row_changes (map (λ r. r.change) l.fn.changes.items) l.fn.rows.rows)
