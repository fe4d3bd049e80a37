-- Rdata is as long as its fields; so another serial leaves its length.
--     length-read      rdata that is read is as long as what is read
--     length-with_serial      SOA rdata with another serial is as long
use Rattle.std.proofs.Common.{◌≡◌, ℕ, suc, ◌+◌, ◌%◌, ◌^◌, ◌<◌, ◌≤◌, Bool, true, false, cond, eqb, ltb, List, [], ◌∷◌, ◌++◌, length, drop, Option, Some, None, Result, Ok, Err, refl, sym, ap, subst, ◌∙◌, arith}
use Rattle.std.specs.Prelude.{slice_range, flat_map}
use Rattle.std.specs.Int.{w32, to_be_bytes}
use Rattle.std.specs.List.{AllByRecursion}
use Rattle.std.proofs.lemmas.Bool.{eqb-true, ltb-false}
use Rattle.std.proofs.lemmas.List.{length-append, length-drop}
use Rattle.std.proofs.lemmas.List.Folds.{drop_split}
use Rattle.dnsname.specs.Names.{octets}
use Rattle.dnsname.specs.Reading.{Read, plain_name_at}
use Rattle.dnsname.specs.Spelling.{SpellsPlainNameAt}
use Rattle.dnsname.proofs.Standing.{StandsAt-length}
use Rattle.dnsname.proofs.FoundNames.{AreOctetsBelow, below_at, plain_name_at-found}
use Rattle.rrset.specs.Kinds.{soa_kind}
use Rattle.rrset.specs.Rdata.{Part, some_octets, one_name, strings, Field, raw, named, are_strings, with_field, fields_from, field_octets, rdata_fields}
use Rattle.rrset.proofs.ReadBack.{fields_done, not_done, same_done, named_then, name_first}
use Rattle.dnswire.proofs.WrittenUpdates.{field-done}
use Rattle.zoneupdate.specs.Zones.{serial_of, with_serial, fields_with}
use Rattle.zoneupdate.specs.Changing.{risen_rdata}
use Rattle.zoneupdate.proofs.SoaRdata.{soa_found, with_serial-put, serial_put}

-- ---- fields

abbrev IsLong : List ℕ → ℕ → List Field → Type 0
IsLong text p fields = length text ≡ p + length (flat_map field_octets fields)

pub length-read : (parts : List Part) (text : List ℕ) (p : ℕ) (fields : List Field) → AllByRecursion (λ o. o < 256) text → p ≤ length text → fields_from plain_name_at parts text p ≡ fields_done fields → IsLong text p fields
length-read [] text p fields below le e = by (eqb p (length text)) refl e
  where
    by : (b : Bool) → eqb p (length text) ≡ b → cond {A = Result (List Field) ℕ} b (Ok []) (Err p) ≡ fields_done fields → IsLong text p fields
    by false is e = absurd (not_done p fields e)
    by true is e = subst (IsLong text p) (same_done [] fields e) (omega (arith, eqb-true p (length text) is))
length-read (some_octets n ∷ parts) text p fields below le e = by (ltb (length text) (p + n)) refl e (λ rest. length-read parts text (p + n) rest below)
  where
    by : (b : Bool) → ltb (length text) (p + n) ≡ b → cond b (Err (length text)) (with_field (raw (slice_range text p (p + n))) (fields_from plain_name_at parts text (p + n))) ≡ fields_done fields
        → ((rest : List Field) → p + n ≤ length text → fields_from plain_name_at parts text (p + n) ≡ fields_done rest → IsLong text (p + n) rest) → IsLong text p fields
    by true is e more = absurd (not_done _ fields e)
    by false is e more =
        let fits = ltb-false (length text) (p + n) is in
        let bytes = slice_range text p (p + n) in
        let o = field-done (raw bytes) (fields_from plain_name_at parts text (p + n)) fields e in
        let split : drop p text ≡ bytes ++ drop (p + n) text = drop_split text p (p + n) (omega arith) in
        subst (IsLong text p) o.2 (omega (arith, more o.0 fits o.1, ap length split, length-append bytes (drop (p + n) text), length-drop p text, length-drop (p + n) text, fits, length-append bytes (flat_map field_octets o.0)))
length-read (one_name ∷ parts) text p fields below le e = by (plain_name_at text p) refl (sym (name_first parts text p) ∙ e) (λ q rest. length-read parts text q rest below)
  where
    by : (r : Read) → plain_name_at text p ≡ r → named_then parts text r ≡ fields_done fields
        → ((q : ℕ) (rest : List Field) → q ≤ length text → fields_from plain_name_at parts text q ≡ fields_done rest → IsLong text q rest) → IsLong text p fields
    by (Err fault) is e more = absurd (not_done _ fields e)
    by (Ok found) is e more =
        let o = field-done (named found.0) (fields_from plain_name_at parts text found.1) fields e in
        let spelled : SpellsPlainNameAt text p found.0 found.1 = plain_name_at-found text p found.1 found.0 (below_at text below) is in
        let place = spelled.ends in
        let fits : found.1 ≤ length text = omega (arith, place, StandsAt-length text p (octets found.0) spelled.spelled, le) in
        subst (IsLong text p) o.2 (omega (arith, more found.1 o.0 fits o.1, place, length-append (octets found.0) (flat_map field_octets o.0)))
length-read (strings ∷ parts) text p fields below le e = by (are_strings 0 (drop p text)) refl e (λ rest. length-read parts text (length text) rest below)
  where
    by : (b : Bool) → are_strings 0 (drop p text) ≡ b → cond b (with_field (raw (drop p text)) (fields_from plain_name_at parts text (length text))) (Err (length text)) ≡ fields_done fields
        → ((rest : List Field) → length text ≤ length text → fields_from plain_name_at parts text (length text) ≡ fields_done rest → IsLong text (length text) rest) → IsLong text p fields
    by false is e more = absurd (not_done _ fields e)
    by true is e more =
        let o = field-done (raw (drop p text)) (fields_from plain_name_at parts text (length text)) fields e in
        subst (IsLong text p) o.2 (omega (arith, more o.0 (omega arith) o.1, length-drop p text, le, length-append (drop p text) (flat_map field_octets o.0)))

-- ---- another serial

pub length-with_serial : (serial : ℕ) (rdata : List ℕ) → AllByRecursion (λ o. o < 256) rdata → length (with_serial serial rdata) ≡ length rdata
length-with_serial serial rdata below = ap length (with_serial-put serial rdata) ∙ by (rdata_fields soa_kind rdata) refl
  where
    by : (r : Result (List Field) ℕ) → rdata_fields soa_kind rdata ≡ r → length (serial_put serial rdata r) ≡ length rdata
    by (Err p) is = refl
    by (Ok fields) is =
        let soa = soa_found rdata fields is in
        let m = octets soa.mname in
        let r = octets soa.rname in
        let behind = to_be_bytes w32 serial ++ drop 4 soa.numbers in
        let whole = length-read (one_name ∷ one_name ∷ some_octets 20 ∷ []) rdata 0 fields below (omega arith) is in
        let other : length (fields_with serial fields) ≡ length (m ++ r ++ behind) = ap (λ (fs : List Field). length (fields_with serial fs)) soa.fields_are in
        omega (
          arith,
          whole,
          other,
          ap (λ (fs : List Field). length (flat_map field_octets fs)) soa.fields_are,
          soa.many,
          length-append m (r ++ (soa.numbers ++ [])),
          length-append r (soa.numbers ++ []),
          length-append soa.numbers [],
          length-append (m ++ r) behind,
          length-append m r,
          length-append (to_be_bytes w32 serial) (drop 4 soa.numbers),
          length-drop 4 soa.numbers,
        )

all_below : (xs : List ℕ) → AreOctetsBelow xs → AllByRecursion (λ o. o < 256) xs
all_below [] below = tt
all_below (x ∷ xs) below = (below 0 (omega arith), all_below xs (λ i h. below (suc i) (omega arith)))

-- the next serial leaves the length
pub length-risen : (rdata : List ℕ) → AreOctetsBelow rdata → length (risen_rdata rdata) ≡ length rdata
length-risen rdata below = by (serial_of rdata)
  where
    by : (o : Option ℕ) → length {A = ℕ} (elim o [ None ↦ rdata | Some serial ↦ with_serial ((serial + 1) % 2 ^ 32) rdata ]) ≡ length rdata
    by None = refl
    by (Some serial) = length-with_serial ((serial + 1) % 2 ^ 32) rdata (all_below rdata below)
