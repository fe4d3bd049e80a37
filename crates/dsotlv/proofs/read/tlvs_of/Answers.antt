use Rattle.std.proofs.Common.{◌≡◌, ◌∷◌, ◌++◌, [], sym, ap, subst, ◌∙◌}
use Rattle.dsotlv.specs.declared.message.Tlv.{Tlv}
use Rattle.dsotlv.proofs.Walks.{ReadSoFar, begins, more, ends, fault, tlv_at}
use Rattle.dsotlv.proofs.read.tlvs_of.Goals as goal

pub tlvs-init : goal.tlvs-init
tlvs-init c = subst (ReadSoFar c.args.message.now 12) (sym c.new-tlvs.ensures) (begins c.args.message.now c.requires)

pub returns-in_default : goal.returns-in_default
returns-in_default c = fault c.args.message.now c.tlvs.place c.tlvs.tlvs c.tlvs.invariant c.tlvs-test.true (sym c.tlv_end.ensures ∙ c.in_default.is)

pub tlvs-preserved : goal.tlvs-preserved
tlvs-preserved c =
    let next : c.push.new.self ≡ c.tlvs.tlvs ++ tlv_at c.args.message.now c.tlvs.place c.in-Some.end ∷ [] = c.in_ok-push.ensures.ok ∙ ap (λ (tlv : Tlv). c.tlvs.tlvs ++ tlv ∷ []) c.in_ok-tlv_between.ensures in
    subst (ReadSoFar c.args.message.now c.in-Some.end) (sym next)
    (more c.args.message.now c.tlvs.place c.in-Some.end c.tlvs.tlvs c.tlvs.invariant c.tlvs-test.true (sym c.tlv_end.ensures ∙ c.in-Some.is))

pub returns : goal.returns
returns c = ends c.args.message.now c.tlvs.place c.tlvs.tlvs c.tlvs.invariant c.tlvs-test.false
