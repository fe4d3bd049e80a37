use Rattle.std.proofs.Common.{◌≡◌, ◌++◌, take}
use Rattle.std.specs.Prelude.{flat_map}
use Rattle.dsotlv.specs.Messages.{tlv_octets}
use Rattle.dsotlv.proofs.write.push_tlvs.Given as goal

abbrev pub invariant-tlvs : goal.invariant-tlvs
invariant-tlvs l = l.out.items ≡ l.fn.out.items ++ flat_map tlv_octets (take l.tlv-index l.tlvs)
