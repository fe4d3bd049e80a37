use Rattle.std.proofs.Common.{arith}
use Rattle.dsotlv.proofs.Sizes.{size_before}
use Rattle.dsotlv.proofs.write.push_tlvs.Goals as goal

pub push_tlv-requires : goal.push_tlv-requires
push_tlv-requires c = omega (arith, size_before c.args.tlvs.now c.tlvs.tlv-index c.tlv-item.result c.tlvs-test.true c.tlv-item.is)
