use Rattle.std.proofs.Common.{◌≡◌, ◌++◌, filter, take}
use Rattle.zoneupdate.specs.KeptZones.{lies_under}
use Rattle.history.proofs.updating.put_all_under.Given as goal

abbrev pub invariant-homes : goal.invariant-homes
invariant-homes l = l.names.items ≡ l.fn.names.items ++ filter (lies_under l.apex) (take l.home-index l.homes)
