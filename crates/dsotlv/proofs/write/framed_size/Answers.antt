use Rattle.std.proofs.Common.{arith}
use Rattle.dsotlv.proofs.Sizes.{size_before}
use Rattle.dsotlv.proofs.write.framed_size.Goals as goal

pub returns-then-octets-clause-none : goal.returns-then-octets-clause-none
returns-then-octets-clause-none c = λ e. omega (arith, size_before c.args.tlvs.now c.tlvs.tlv-index c.tlv-item.result c.tlvs-test.true c.tlv-item.is)

pub returns-then-size-gt-MAX_MESSAGE-clause-none : goal.returns-then-size-gt-MAX_MESSAGE-clause-none
returns-then-size-gt-MAX_MESSAGE-clause-none c = λ e. omega (arith, size_before c.args.tlvs.now c.tlvs.tlv-index c.tlv-item.result c.tlvs-test.true c.tlv-item.is)
