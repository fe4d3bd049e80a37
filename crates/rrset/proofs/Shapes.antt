-- Going through the parts of a shape.
use Rattle.std.proofs.Common.{◌≡◌, ℕ, zero, suc, ◌+◌, ◌-◌, ◌<◌, Bool, true, false, cond, ltb, List, ◌∷◌, length, get_or, drop, map, Result, Ok, Err, refl, sym, ap, ◌∙◌, arith}
use Rattle.std.specs.Prelude.{slice_range, is_ok}
use Rattle.std.proofs.lemmas.List.{at_drop_more}
use Rattle.dnsname.specs.Names.{Labels}
use Rattle.dnsname.specs.Reading.{plain_name_at, place_of}
use Rattle.dnsname.specs.declared.name.NameFault.{NameFault}
use Rattle.rrset.specs.Rdata.{Part, Field, raw, named, are_strings, with_field, fields_from}
use Rattle.rrset.specs.Parts.{NameReader, part_of, field_at}
use Rattle.rrset.specs.declared.shape.ShapePart.{ShapePart}
use Rattle.rrset.specs.declared.shape.ShapePart.TheVariants as code

-- ---- one part

-- the fields from a place on, where the first is this one
abbrev pub onto_field : NameReader → List Part → List ℕ → Result (Field × ℕ) ℕ → Result (List Field) ℕ
onto_field read parts text (Ok field) = with_field field.0 (fields_from read parts text field.1)
onto_field read parts text (Err p) = Err p

pub fields-first : (read : NameReader) (part : ShapePart) (parts : List Part) (text : List ℕ) (p : ℕ) → fields_from read (part_of part ∷ parts) text p ≡ onto_field read parts text (field_at read part text p)
fields-first read (code.Octets n) parts text p = by_test (ltb (length text) (p + n))
  where
    by_test : (cut : Bool) → cond cut (Err (length text)) (with_field (raw (slice_range text p (p + n))) (fields_from read parts text (p + n)))
        ≡ onto_field read parts text (cond cut (Err (length text)) (Ok (raw (slice_range text p (p + n)), p + n)))
    by_test true = refl
    by_test false = refl
fields-first read code.Name parts text p = by_name (read text p)
  where
    by_name : (r : Result (Labels × ℕ) NameFault) → elim r [ Err fault ↦ Err (place_of fault) | Ok found ↦ with_field (named found.0) (fields_from read parts text found.1) ]
        ≡ onto_field read parts text (elim r [ Err fault ↦ Err (place_of fault) | Ok found ↦ Ok (named found.0, found.1) ])
    by_name (Ok found) = refl
    by_name (Err fault) = refl
fields-first read code.Strings parts text p = by_test (are_strings 0 (drop p text))
  where
    by_test : (are : Bool) → cond are (with_field (raw (drop p text)) (fields_from read parts text (length text))) (Err (length text))
        ≡ onto_field read parts text (cond are (Ok (raw (drop p text), length text)) (Err (length text)))
    by_test true = refl
    by_test false = refl

-- ---- whether all parts fit

abbrev pub fits_from : List ShapePart → List ℕ → ℕ → Bool
fits_from parts rdata p = is_ok (fields_from plain_name_at (map part_of parts) rdata p)

-- ---- counted strings

pub strings-begin : (octets : List ℕ) (i : ℕ) → i < length octets → are_strings (get_or octets i 0) (drop (i + 1) octets) ≡ are_strings 0 (drop i octets)
strings-begin octets i h = sym (at_drop_more (are_strings 0) octets i 0 h)

pub strings-go_on : (wanted : ℕ) (octets : List ℕ) (i : ℕ) → i < length octets → 0 < wanted → are_strings (wanted - 1) (drop (i + 1) octets) ≡ are_strings wanted (drop i octets)
strings-go_on zero octets i h some = absurd (omega arith)
strings-go_on (suc wanted) octets i h some =
    let less : suc wanted - 1 ≡ wanted = omega arith in
    ap (λ (n : ℕ). are_strings n (drop (i + 1) octets)) less ∙ sym (at_drop_more (are_strings (suc wanted)) octets i 0 h)
