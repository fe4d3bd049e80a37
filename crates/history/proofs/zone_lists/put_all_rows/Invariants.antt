use Rattle.std.proofs.Common.{◌≡◌, fold, map, take}
use Rattle.rrset.specs.RecordSet.{union}
use Rattle.history.proofs.zone_lists.put_all_rows.Given as goal

abbrev pub invariant-zones : goal.invariant-zones
invariant-zones l = l.all.rows ≡ fold union l.fn.all.rows (map (λ z. z.state.rows) (take l.zone-index l.zones))
