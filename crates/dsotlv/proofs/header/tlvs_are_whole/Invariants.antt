use Rattle.std.proofs.Common.{length, ◌-◌, List}
use Rattle.dsotlv.specs.declared.message.Tlv.{Tlv}
use Rattle.dsotlv.proofs.Walks.{ReadSoFar}
use Rattle.dsotlv.proofs.header.tlvs_are_whole.Given as goal

abbrev pub invariant-tlvs : goal.invariant-tlvs
invariant-tlvs l = (read : List Tlv) × ReadSoFar l.message l.place read

-- proposed from the loop's first test
abbrev pub decreases-tlvs : goal.decreases-tlvs
decreases-tlvs l = length l.message - l.place
