use Rattle.std.proofs.Common.{◌≡◌}
use Rattle.std.specs.List.{AllByRecursion}
use Rattle.rrset.specs.RecordSet.{with_changes}
use Rattle.rrset.specs.Tables.{HasLowerOwner}
use Rattle.nametable.specs.Nodes.{HasRoomFor, keys_put}
use Rattle.zoneupdate.proofs.applying.make_changes.Given as goal

abbrev pub invariant-changes : goal.invariant-changes
invariant-changes l = AllByRecursion (λ c. HasLowerOwner c.key) l.change-iterator.rest.items
    × HasRoomFor (keys_put l.change-iterator.rest.items) l.rows.nodes
    × (with_changes l.change-iterator.rest.items l.rows.rows ≡ with_changes l.fn.changed.items l.fn.rows.rows)
