use Rattle.std.proofs.Common.{[], ◌∷◌, ◌++◌, is_ok, ap, sym, ◌∙◌}
use Rattle.dsotlv.proofs.Walks.{begins, more, ends, tlv_at}
use Rattle.dsotlv.proofs.header.tlvs_are_whole.Goals as goal

pub tlvs-init : goal.tlvs-init
tlvs-init c = ([], begins c.args.message.now c.requires)

pub tlvs-preserved : goal.tlvs-preserved
tlvs-preserved c = (
  c.tlvs.invariant.0 ++ tlv_at c.args.message.now c.tlvs.place c.in-Some.end ∷ [],
  more c.args.message.now c.tlvs.place c.in-Some.end c.tlvs.invariant.0 c.tlvs.invariant.1 c.tlvs-test.true (sym c.tlv_end.ensures ∙ c.in-Some.is),
)

pub returns : goal.returns
returns c = ap is_ok (sym (ends c.args.message.now c.tlvs.place c.tlvs.invariant.0 c.tlvs.invariant.1 c.tlvs-test.false))
