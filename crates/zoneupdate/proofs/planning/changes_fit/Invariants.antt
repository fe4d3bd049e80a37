use Rattle.std.proofs.Common.{◌≡◌, drop}
use Rattle.std.specs.Prelude.{nat_le}
use Rattle.std.specs.List.{list_all}
use Rattle.push_base.specs.Limits.{max_octets_at_name}
use Rattle.rrset.specs.RecordSet.{size_at}
use Rattle.zoneupdate.proofs.planning.changes_fit.Given as goal

abbrev pub invariant-changes : goal.invariant-changes
invariant-changes l = list_all (λ rr. nat_le (size_at rr.owner l.work.rows) max_octets_at_name) (drop l.rr-index l.rr-items) ≡ list_all (λ rr. nat_le (size_at rr.owner l.work.rows) max_octets_at_name) l.changes
