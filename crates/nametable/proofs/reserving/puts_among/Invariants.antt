use Rattle.std.proofs.Common.{◌≡◌, ◌≤◌, take}
use Rattle.nametable.proofs.PlanRuns.{puts_among}
use Rattle.nametable.proofs.reserving.puts_among.Given as goal

abbrev pub invariant-changes : goal.invariant-changes
invariant-changes l = (l.count ≡ puts_among (take l.change-index l.changed)) × (l.count ≤ l.change-index)
