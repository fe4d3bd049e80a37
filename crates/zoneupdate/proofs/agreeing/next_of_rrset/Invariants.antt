use Rattle.std.proofs.Common.{◌≡◌, length}
use Rattle.zoneupdate.specs.Zones.{set_at}
use Rattle.zoneupdate.proofs.agreeing.next_of_rrset.Given as goal

abbrev pub invariant-entries : goal.invariant-entries
invariant-entries l = set_at l.owner l.kind l.rest ≡ set_at l.owner l.kind l.entries

abbrev pub decreases-entries : goal.decreases-entries
decreases-entries l = length l.rest
