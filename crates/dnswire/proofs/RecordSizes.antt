-- How many octets records take as they are written.
--     record-size, records-size      one; those of a set
--     few-records      a set has no more than its octets leave room for
use Rattle.std.proofs.Common.{◌≡◌, ◌+◌, ◌*◌, ◌≤◌, [], ◌∷◌, ◌++◌, length, map, refl, sym, ap, ◌∙◌, arith}
use Rattle.std.specs.Prelude.{flat_map}
use Rattle.std.proofs.lemmas.List.{length-append}
use Rattle.dnsname.specs.Names.{octets, labels_octets}
use Rattle.rrset.specs.Records.{rr_of, rr_size}
use Rattle.rrset.specs.RecordSet.{RecordSet, size_of}
use Rattle.rrset.specs.declared.record.Rr.{Rr}
use Rattle.rrset.proofs.Sizes.{size_of-cons}
use Rattle.dnswire.specs.Writing.{record_octets}
use Rattle.dnswire.proofs.WrittenUpdates.{record-split}

pub record-size : (rr : Rr) → length (record_octets rr) ≡ rr_size rr
record-size rr = ap length (record-split rr) ∙ length-append (octets rr.owner) _ ∙ omega arith

pub records-size : (set : RecordSet) → length (flat_map record_octets (map (λ e. rr_of e.0 e.1) set)) ≡ size_of set
records-size [] = refl
records-size (e ∷ set) =
    length-append (record_octets (rr_of e.0 e.1)) (flat_map record_octets (map (λ e. rr_of e.0 e.1) set))
    ∙ ap (λ n. n + length (flat_map record_octets (map (λ e. rr_of e.0 e.1) set))) (record-size (rr_of e.0 e.1))
    ∙ ap (λ n. rr_size (rr_of e.0 e.1) + n) (records-size set)
    ∙ sym (size_of-cons e set)

-- a record has ten octets of fields and the length 0 of its owner
pub few-records : (set : RecordSet) → 11 * length set ≤ size_of set
few-records [] = omega arith
few-records (e ∷ set) = omega (arith, few-records set, size_of-cons e set, length-append (labels_octets e.1.owner) (0 ∷ []))
