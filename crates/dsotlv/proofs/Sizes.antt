-- How many octets TLVs take.
use Rattle.std.proofs.Common.{◌≡◌, ℕ, ◌+◌, ◌<◌, ◌≤◌, List, length, get_or, take, ap, arith}
use Rattle.std.specs.Prelude.{flat_map}
use Rattle.std.proofs.lemmas.List.Folds.{length-flat_map-take}
use Rattle.dsotlv.specs.declared.message.Tlv.{Tlv}
use Rattle.dsotlv.specs.Messages.{tlv_octets}

pub length-tlv : (tlv : Tlv) → length (tlv_octets tlv) ≡ 4 + length tlv.octets
length-tlv tlv = omega arith

-- a TLV and those before it take no more than all
pub size_before : (tlvs : List Tlv) (i : ℕ) (tlv : Tlv) → i < length tlvs → tlv ≡ get_or tlvs i tlv → length (flat_map tlv_octets (take i tlvs)) + (4 + length tlv.octets) ≤ length (flat_map tlv_octets tlvs)
size_before tlvs i tlv before is =
    let same : length tlv.octets ≡ length (get_or tlvs i tlv).octets = ap (λ (t : Tlv). length t.octets) is in
    omega (arith, length-flat_map-take tlv_octets tlvs i tlv before, length-tlv (get_or tlvs i tlv), same)
