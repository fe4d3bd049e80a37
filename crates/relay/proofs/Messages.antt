-- The messages of carries: they are read as what they are, and are short.
use Rattle.std.proofs.Common.{◌≡◌, ℕ, suc, ◌+◌, ◌*◌, ◌^◌, ◌<◌, ◌≤◌, true, List, [], ◌∷◌, ◌++◌, length, map, Ok, refl, sym, ap, subst, ◌∙◌, arith, append_assoc}
use Rattle.std.specs.Prelude.{flat_map, MatchBool}
use Rattle.std.specs.List.{AllByRecursion}
use Rattle.std.proofs.lemmas.List.{length-append, length-map, append-nil}
use Rattle.std.specs.Int.{w16, to_be_bytes}
use Rattle.push_base.specs.Limits.{max_home_octets}
use Rattle.dnsname.specs.Names.{Labels, IsName, octets, labels_octets}
use Rattle.rrset.specs.Kinds.{in_class, soa_kind}
use Rattle.rrset.specs.Rdata.{shape_fits}
use Rattle.rrset.specs.Records.{rr_of, rr_size}
use Rattle.rrset.specs.RecordSet.{RecordSet, size_of}
use Rattle.rrset.specs.declared.record.Rr.{Rr}
use Rattle.rrset.specs.declared.record.Key.{Key}
use Rattle.rrset.specs.declared.record.Shown.{Shown}
use Rattle.rrset.specs.declared.record.Question.{Question}
use Rattle.rrset.proofs.Sizes.{size_of-cons}
use Rattle.dnswire.specs.Reading.{update_shape, update_of}
use Rattle.dnswire.specs.Writing.{IsWritableRecord, message_header, record_octets, question_octets, update_octets}
use Rattle.dnswire.proofs.RecordSizes.{record-size, records-size, few-records}
use Rattle.dnswire.proofs.WrittenUpdates.{question-split, written-read}
use Rattle.relay.specs.Relay.{deletion, carrying, IsCarriedRow, IsCarriable}

-- ---- what is written

deletion-writable : (name : Labels) → IsName name → IsWritableRecord (deletion name)
deletion-writable name is = record { owner = is; kind = omega arith; class = omega arith; ttl = omega arith; few = omega arith; octets = tt; fits = refl }

rows-small : (name : Labels) (set : RecordSet) → AllByRecursion (IsCarriedRow name) set → size_of set < 2 ^ 16 → AllByRecursion IsWritableRecord (map (λ e. rr_of e.0 e.1) set)
rows-small name [] all size = tt
rows-small name (e ∷ set) all size = (
  record {
    owner = all.0.is_name;
    kind = all.0.kind;
    class = subst (λ c. c < 2 ^ 16) (sym all.0.class) (omega arith);
    ttl = omega (arith, all.0.ttl);
    few = omega (arith, size, size_of-cons e set);
    octets = all.0.octets;
    fits = subst (λ c. MatchBool (update_shape c (length e.1.rdata)) (shape_fits e.0.kind e.1.rdata ≡ true) (e.1.rdata ≡ [])) (sym all.0.class) all.0.fits;
  },
  rows-small name set all.1 (omega (arith, size, size_of-cons e set)),
)

pub carries-read : (zone name : Labels) (set : RecordSet) (id : ℕ) → IsName zone → IsCarriable name set → id < 2 ^ 16 → update_of (update_octets (carrying zone name set id)) ≡ Ok (carrying zone name set id)
carries-read zone name set id is can small = written-read (carrying zone name set id) (record {
  id = small;
  zones = (record { name = is; kind = omega arith; class = omega arith }, tt);
  prereqs = tt;
  changes = (deletion-writable name can.is_name, rows-small name set can.rows (omega (arith, can.size)));
  few_zones = omega arith;
  few_prereqs = omega arith;
  few_changes = omega (arith, length-map set (λ (e : Key × Shown). rr_of e.0 e.1), few-records set, can.size);
})

pub messages-short : (zone name : Labels) (set : RecordSet) (id : ℕ) → length (octets zone) ≤ max_home_octets → IsCarriable name set → length (update_octets (carrying zone name set id)) ≤ 60481
messages-short zone name set id short can =
    let question : Question = record { name = zone; kind = 6; class = 1 } in
    let entry = record_octets (deletion name) in
    let others = flat_map record_octets (map (λ (e : Key × Shown). rr_of e.0 e.1) set) in
    omega (
      arith,
      short,
      can.is_name.size,
      can.size,
      records-size set,
      record-size (deletion name),
      length-append entry others,
      length-append (question_octets question ++ []) (entry ++ others),
      length-append (question_octets question) [],
      ap length (question-split question),
      length-append (octets zone) (0 ∷ 6 ∷ 0 ∷ 1 ∷ []),
    )

-- ---- how it is written

abbrev pub front : ℕ → ℕ → List ℕ
front id count = message_header id 0x2800 1 0 count

abbrev pub zone_entry : Labels → Question
zone_entry zone = record { name = zone; kind = soa_kind; class = in_class }

abbrev pub records_of : RecordSet → List ℕ
records_of set = flat_map record_octets (map (λ e. rr_of e.0 e.1) set)

pub written : (zone name : Labels) (set : RecordSet) (id : ℕ) (a b c d : List ℕ) → a ≡ front id (length set + 1) → b ≡ a ++ question_octets (zone_entry zone) → c ≡ b ++ record_octets (deletion name) → d ≡ c ++ records_of set
    → d ≡ update_octets (carrying zone name set id)
written zone name set id a b c d first second third last =
    last ∙ ap (λ (l : List ℕ). l ++ records_of set) (third ∙ ap (λ (l : List ℕ). l ++ record_octets (deletion name)) (second ∙ ap (λ (l : List ℕ). l ++ question_octets (zone_entry zone)) (first ∙ ap (front id) many)))
    ∙ append_assoc (front id count ++ question_octets (zone_entry zone)) (record_octets (deletion name)) (records_of set)
    ∙ ap (λ (l : List ℕ). front id count ++ l ++ (record_octets (deletion name) ++ records_of set)) (sym (append-nil (question_octets (zone_entry zone))))
  where
    count : ℕ
    count = length (deletion name ∷ map (λ (e : Key × Shown). rr_of e.0 e.1) set)

    many : length set + 1 ≡ count
    many = omega (arith, length-map set (λ (e : Key × Shown). rr_of e.0 e.1))
