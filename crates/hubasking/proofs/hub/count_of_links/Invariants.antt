use Rattle.std.proofs.Common.{length, ◌-◌, ◌≤◌}
use Rattle.hubasking.proofs.hub.count_of_links.Given as goal

abbrev pub invariant-links : goal.invariant-links
invariant-links l = l.count ≤ length l.homes.links

abbrev pub decreases-links : goal.decreases-links
decreases-links l = length l.homes.links - l.count
