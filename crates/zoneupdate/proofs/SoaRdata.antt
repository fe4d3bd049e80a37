-- SOA rdata: its fields are read from what was put together of them, and from each other with another serial.
--     IsSoa fields      two names that can stand, and 20 octets
use Rattle.std.proofs.Common.{◌≡◌, ℕ, ◌+◌, ◌-◌, ◌≤◌, Bool, true, false, cond, eqb, ltb, Option, None, is_some, List, [], ◌∷◌, ◌++◌, length, take, drop, Result, Ok, Err, refl, sym, ap, ◌∙◌, arith, w32, append_assoc}
use Rattle.std.specs.Prelude.{slice_range}
use Rattle.std.specs.Int.{to_be_bytes}
use Rattle.std.proofs.lemmas.Bool.{le-ltb, eq-eqb, ltb-false}
use Rattle.std.proofs.lemmas.List.{length-append, length-take-le, length-drop, take_all, drop_at, drop-drop}
use Rattle.dnsname.specs.Names.{Labels, octets}
use Rattle.dnsname.specs.Reading.{Read, plain_name_at, place_of}
use Rattle.dnsname.proofs.ReadAgain.{CanStand, plain_name_at-can, plain_name_at-stands}
use Rattle.rrset.specs.Kinds.{soa_kind}
use Rattle.rrset.specs.Rdata.{Part, some_octets, one_name, Field, raw, named, with_field, fields_from, rdata_fields}
use Rattle.zoneupdate.specs.Zones.{soa_rdata, serial_in, serial_of, fields_with, with_serial}

pub record IsSoa (fields : List Field) : Type 0 where
  pub mname : Labels
  pub rname : Labels
  pub numbers : List ℕ
  pub fields_are : fields ≡ named mname ∷ named rname ∷ raw numbers ∷ []
  pub m_stands : CanStand 0 mname
  pub r_stands : CanStand 0 rname
  pub many : length numbers ≡ 20

-- ---- a name, and then the other parts

abbrev pub named_then : List Part → List ℕ → Read → Result (List Field) ℕ
named_then parts text (Ok found) = with_field (named found.0) (fields_from plain_name_at parts text found.1)
named_then parts text (Err fault) = Err (place_of fault)

pub name_first : (parts : List Part) (text : List ℕ) (p : ℕ) → fields_from plain_name_at (one_name ∷ parts) text p ≡ named_then parts text (plain_name_at text p)
name_first parts text p = by (plain_name_at text p)
  where
    by : (r : Read) → elim r [ Err fault ↦ Err (place_of fault) | Ok found ↦ with_field (named found.0) (fields_from plain_name_at parts text found.1) ] ≡ named_then parts text r
    by (Ok found) = refl
    by (Err fault) = refl

abbrev pub fields_done : List Field → Result (List Field) ℕ
fields_done fields = Ok fields

pub not_done : (p : ℕ) (fields : List Field) → Err p ≡ fields_done fields → ⊥
not_done p fields e = cc

pub same_done : (a b : List Field) → fields_done a ≡ fields_done b → a ≡ b
same_done a b e = cc

pub with_field_found : (field : Field) (r : Result (List Field) ℕ) (fields : List Field) → with_field field r ≡ fields_done fields → (rest : List Field) × (r ≡ fields_done rest) × (field ∷ rest ≡ fields)
with_field_found field (Ok rest) fields e = (rest, refl, same_done (field ∷ rest) fields e)
with_field_found field (Err p) fields e = absurd (not_done p fields e)

pub record NameFound (parts : List Part) (text : List ℕ) (fields : List Field) : Type 0 where
  pub name : Labels
  pub after : ℕ
  pub rest : List Field
  pub stands : CanStand 0 name
  pub others : fields_from plain_name_at parts text after ≡ fields_done rest
  pub are : named name ∷ rest ≡ fields

pub name_found : (parts : List Part) (text : List ℕ) (p : ℕ) (fields : List Field) → fields_from plain_name_at (one_name ∷ parts) text p ≡ fields_done fields → NameFound parts text fields
name_found parts text p fields e = by (plain_name_at text p) refl (sym (name_first parts text p) ∙ e)
  where
    by : (r : Read) → plain_name_at text p ≡ r → named_then parts text r ≡ fields_done fields → NameFound parts text fields
    by (Err fault) is e = absurd (not_done _ fields e)
    by (Ok found) is e =
        let more = with_field_found (named found.0) (fields_from plain_name_at parts text found.1) fields e in
        record { name = found.0; after = found.1; rest = more.0; stands = plain_name_at-can text p found.1 found.0 is; others = more.1; are = more.2 }

-- the last octets
pub record OctetsFound (n : ℕ) (fields : List Field) : Type 0 where
  pub bytes : List ℕ
  pub many : length bytes ≡ n
  pub are : raw bytes ∷ [] ≡ fields

pub octets_found : (n : ℕ) (text : List ℕ) (p : ℕ) (fields : List Field) → fields_from plain_name_at (some_octets n ∷ []) text p ≡ fields_done fields → OctetsFound n fields
octets_found n text p fields e = by (ltb (length text) (p + n)) refl e
  where
    end : (b : Bool) (rest : List Field) → cond {A = Result (List Field) ℕ} b (Ok []) (Err (p + n)) ≡ fields_done rest → [] ≡ rest
    end true rest e = same_done [] rest e
    end false rest e = absurd (not_done _ rest e)

    by : (b : Bool) → ltb (length text) (p + n) ≡ b → cond b (Err (length text)) (with_field (raw (slice_range text p (p + n))) (fields_from plain_name_at [] text (p + n))) ≡ fields_done fields → OctetsFound n fields
    by true is e = absurd (not_done _ fields e)
    by false is e =
        let more = with_field_found (raw (slice_range text p (p + n))) (fields_from plain_name_at [] text (p + n)) fields e in
        let within : p + n ≤ length text = ltb-false (length text) (p + n) is in
        let cut : p + n - p ≡ n = omega arith in
        let left = length-drop p text in
        let long : length (slice_range text p (p + n)) ≡ n = ap (λ (k : ℕ). length (take k (drop p text))) cut ∙ length-take-le n (drop p text) (omega arith) in
        record { bytes = slice_range text p (p + n); many = long; are = ap (λ (fs : List Field). raw (slice_range text p (p + n)) ∷ fs) (end (eqb (p + n) (length text)) more.0 more.1) ∙ more.2 }

pub soa_found : (rdata : List ℕ) (fields : List Field) → rdata_fields soa_kind rdata ≡ Ok fields → IsSoa fields
soa_found rdata fields e =
    let first = name_found (one_name ∷ some_octets 20 ∷ []) rdata 0 fields e in
    let second = name_found (some_octets 20 ∷ []) rdata first.after first.rest first.others in
    let last = octets_found 20 rdata second.after second.rest second.others in
    record {
      mname = first.name;
      rname = second.name;
      numbers = last.bytes;
      fields_are = sym (ap (λ (fs : List Field). named first.name ∷ named second.name ∷ fs) last.are ∙ ap (λ (fs : List Field). named first.name ∷ fs) second.are ∙ first.are);
      m_stands = first.stands;
      r_stands = second.stands;
      many = last.many;
    }

-- ---- the fields of what was put together

pub last_read : (text : List ℕ) (p n : ℕ) (bytes : List ℕ) → drop p text ≡ bytes → length bytes ≡ n → length text ≡ p + n → fields_from plain_name_at (some_octets n ∷ []) text p ≡ Ok (raw bytes ∷ [])
last_read text p n bytes is many long =
    let within : ltb (length text) (p + n) ≡ false = le-ltb (length text) (p + n) (omega arith) in
    let at_end : eqb (p + n) (length text) ≡ true = eq-eqb (p + n) (length text) (sym long) in
    let cut : p + n - p ≡ n = omega arith in
    let range : slice_range text p (p + n) ≡ bytes = ap (λ (k : ℕ). take k (drop p text)) cut ∙ ap (take n) is ∙ take_all n bytes (omega arith) in
    ap (λ b. cond b (Err (length text)) (with_field (raw (slice_range text p (p + n))) (fields_from plain_name_at [] text (p + n)))) within
    ∙ ap (λ b. with_field (raw (slice_range text p (p + n))) (cond b (Ok []) (Err (p + n)))) at_end
    ∙ ap (λ (bs : List ℕ). Ok (raw bs ∷ [])) range

pub soa_fields : (m r : Labels) (numbers : List ℕ) → CanStand 0 m → CanStand 0 r → length numbers ≡ 20 → rdata_fields soa_kind (soa_rdata m r numbers) ≡ Ok (named m ∷ named r ∷ raw numbers ∷ [])
soa_fields m r numbers can_m can_r many =
    let text = soa_rdata m r numbers in
    let p = length (octets m) in
    let q = p + length (octets r) in
    let start : 0 + p ≡ p = omega arith in
    let whole : text ≡ octets m ++ (octets r ++ numbers) = append_assoc (octets m) (octets r) numbers in
    let behind : drop p text ≡ octets r ++ numbers = ap (drop p) whole ∙ drop_at (octets m) (octets r ++ numbers) p refl in
    let last : drop q text ≡ numbers = sym (drop-drop (length (octets r)) p text) ∙ ap (drop (length (octets r))) behind ∙ drop_at (octets r) numbers (length (octets r)) refl in
    let long : length text ≡ q + 20 = omega (arith, many, ap (λ (t : List ℕ). length t) whole, length-append (octets m) (octets r ++ numbers), length-append (octets r) numbers) in
    name_first (one_name ∷ some_octets 20 ∷ []) text 0
    ∙ ap (named_then (one_name ∷ some_octets 20 ∷ []) text) (plain_name_at-stands text 0 m can_m (octets r ++ numbers, whole))
    ∙ ap (λ (k : ℕ). with_field (named m) (fields_from plain_name_at (one_name ∷ some_octets 20 ∷ []) text k)) start
    ∙ ap (with_field (named m)) (name_first (some_octets 20 ∷ []) text p ∙ ap (named_then (some_octets 20 ∷ []) text) (plain_name_at-stands text p r can_r (numbers, behind)) ∙ ap (with_field (named r)) (last_read text q 20 numbers last many long))

-- ---- the serial

abbrev pub serial_read : Result (List Field) ℕ → Option ℕ
serial_read (Ok fields) = serial_in fields
serial_read (Err p) = None

pub serial_of-read : (rdata : List ℕ) → serial_of rdata ≡ serial_read (rdata_fields soa_kind rdata)
serial_of-read rdata = by (rdata_fields soa_kind rdata)
  where
    by : (r : Result (List Field) ℕ) → elim r [ Err p ↦ None | Ok fields ↦ serial_in fields ] ≡ serial_read r
    by (Ok fields) = refl
    by (Err p) = refl

-- a serial is read from what was put together
pub serial_of-soa : (m r : Labels) (numbers : List ℕ) → CanStand 0 m → CanStand 0 r → length numbers ≡ 20 → is_some (serial_of (soa_rdata m r numbers)) ≡ true
serial_of-soa m r numbers can_m can_r many = ap is_some (serial_of-read (soa_rdata m r numbers) ∙ ap serial_read (soa_fields m r numbers can_m can_r many))

abbrev pub serial_put : ℕ → List ℕ → Result (List Field) ℕ → List ℕ
serial_put serial rdata (Ok fields) = fields_with serial fields
serial_put serial rdata (Err p) = rdata

pub with_serial-put : (serial : ℕ) (rdata : List ℕ) → with_serial serial rdata ≡ serial_put serial rdata (rdata_fields soa_kind rdata)
with_serial-put serial rdata = by (rdata_fields soa_kind rdata)
  where
    by : (r : Result (List Field) ℕ) → elim r [ Err p ↦ rdata | Ok fields ↦ fields_with serial fields ] ≡ serial_put serial rdata r
    by (Ok fields) = refl
    by (Err p) = refl

-- a serial is read from rdata with another serial, where one was read before
pub serial_of-with_serial : (serial : ℕ) (rdata : List ℕ) → is_some (serial_of rdata) ≡ true → is_some (serial_of (with_serial serial rdata)) ≡ true
serial_of-with_serial serial rdata some =
    ap (λ (t : List ℕ). is_some (serial_of t)) (with_serial-put serial rdata) ∙ by (rdata_fields soa_kind rdata) refl (ap is_some (sym (serial_of-read rdata)) ∙ some)
  where
    with_fields : (fields : List Field) → IsSoa fields → is_some (serial_of (fields_with serial fields)) ≡ true
    with_fields fields is =
        let four : length (to_be_bytes w32 serial) ≡ 4 = refl in
        let long : length (to_be_bytes w32 serial ++ drop 4 is.numbers) ≡ 20 = omega (arith, is.many, length-append (to_be_bytes w32 serial) (drop 4 is.numbers), four, length-drop 4 is.numbers) in
        ap (λ (fs : List Field). is_some (serial_of (fields_with serial fs))) is.fields_are ∙ serial_of-soa is.mname is.rname (to_be_bytes w32 serial ++ drop 4 is.numbers) is.m_stands is.r_stands long

    by : (r : Result (List Field) ℕ) → rdata_fields soa_kind rdata ≡ r → is_some (serial_read r) ≡ true → is_some (serial_of (serial_put serial rdata r)) ≡ true
    by (Err p) is some = absurd cc
    by (Ok fields) is some = with_fields fields (soa_found rdata fields is)
