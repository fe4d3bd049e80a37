use Rattle.std.proofs.Common.{◌≡◌, ◌+◌, ◌≤◌, length, take}
use Rattle.std.specs.Prelude.{flat_map}
use Rattle.dsotlv.specs.Messages.{tlv_octets}
use Rattle.dsotlv.proofs.write.framed_size.Given as goal

abbrev pub invariant-tlvs : goal.invariant-tlvs
invariant-tlvs l = record { size : l.size ≡ 12 + length (flat_map tlv_octets (take l.tlv-index l.tlvs)); fits : l.size ≤ 65535 }
