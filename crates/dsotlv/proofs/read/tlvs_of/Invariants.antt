use Rattle.std.proofs.Common.{length, ◌-◌}
use Rattle.dsotlv.proofs.Walks.{ReadSoFar}
use Rattle.dsotlv.proofs.read.tlvs_of.Given as goal

abbrev pub invariant-tlvs : goal.invariant-tlvs
invariant-tlvs l = ReadSoFar l.message l.place l.tlvs

abbrev pub decreases-tlvs : goal.decreases-tlvs
decreases-tlvs l = length l.message - l.place
