use Rattle.std.proofs.Common.{length}
use Rattle.dnsname.specs.Octets.{labels_of}
use Rattle.dnsname.proofs.Endings.{Seeks}
use Rattle.dnsname.proofs.suffix.spelled_ends_in.Given as goal

-- the last labels that are sought are among those that are left
abbrev pub invariant-labels : goal.invariant-labels
invariant-labels l = Seeks (labels_of l.name) (length l.suffix) l.rest

abbrev pub decreases-labels : goal.decreases-labels
decreases-labels l = length l.rest
