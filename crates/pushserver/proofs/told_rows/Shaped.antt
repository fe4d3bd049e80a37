-- Rdata that is read from a message fits the shape of its kind.
--     spelled-fits      rdata that a message spells has the shape of its kind
--     spelled-short      and fewer than 2^16 octets where the message has
use Rattle.std.proofs.Common.{◌≡◌, ℕ, ◌+◌, ◌-◌, ◌^◌, ◌<◌, ◌≤◌, Bool, true, false, cond, ltb, List, [], ◌∷◌, length, take, drop, Option, Some, None, Result, Ok, Err, is_ok, ◌==◌, refl, sym, ap, subst, ◌∙◌, arith}
use Rattle.std.specs.Prelude.{slice_range, flat_map}
use Rattle.std.proofs.lemmas.Bool.{eq-eqb, le-ltb}
use Rattle.std.proofs.lemmas.List.{append-nil, length-append, length-drop, length-take, length-take-le, drop_at, drop-drop, take_at}
use Rattle.dnsname.specs.Names.{Labels, max_name, octets}
use Rattle.dnsname.specs.Reading.{plain_name_at}
use Rattle.dnsname.specs.Spelling.{SpellsNameAt}
use Rattle.dnsname.proofs.ReadAgain.{name-can, plain_name_at-stands}
use Rattle.rrset.specs.Kinds.{a_kind, ns_kind, cname_kind, soa_kind, ptr_kind, mx_kind, txt_kind, aaaa_kind, srv_kind}
use Rattle.rrset.specs.Rdata.{Part, some_octets, one_name, strings, Field, raw, named, are_strings, with_field, fields_from, field_octets, shape, shape_fits}
use Rattle.rrset.specs.Spelling.{SpellsFields, SpellsShape}
use Rattle.dnswire.proofs.Strings.{are_strings-spelled}
use Rattle.linkmap.proofs.WholeRecords.{most, IsPlain, Sort, opaque, plain, text as string_text, shape-sort}
use Rattle.zoneupdate.proofs.SoaRdata.{named_then, name_first, fields_done}
use Rattle.zoneupdate.proofs.Tables.{chosen-holds}

-- ---- the fields' octets stand in a text, from a place to its end

pub record Stands (text : List ℕ) (p : ℕ) (fields : List Field) : Type 0 where
  pub rest : drop p text ≡ flat_map field_octets fields
  pub size : length text ≡ p + length (flat_map field_octets fields)

behind : (text : List ℕ) (p n : ℕ) (field : Field) (fields : List Field) → length (field_octets field) ≡ n → Stands text p (field ∷ fields) → Stands text (p + n) fields
behind text p n field fields long stands = record {
  rest = sym (drop-drop n p text) ∙ ap (drop n) stands.rest ∙ drop_at (field_octets field) (flat_map field_octets fields) n long;
  size = omega (arith, stands.size, long, length-append (field_octets field) (flat_map field_octets fields));
}

-- ---- each part is read

end_read : (text : List ℕ) (p : ℕ) → length text ≡ p → fields_from plain_name_at [] text p ≡ fields_done []
end_read text p long = ap (λ (b : Bool). cond {A = Result (List Field) ℕ} b (Ok []) (Err p)) (eq-eqb p (length text) (sym long))

octets_read : (text : List ℕ) (p n : ℕ) (parts : List Part) (bytes : List ℕ) (fields : List Field) → length bytes ≡ n → Stands text p (raw bytes ∷ fields)
    → fields_from plain_name_at parts text (p + n) ≡ fields_done fields → fields_from plain_name_at (some_octets n ∷ parts) text p ≡ fields_done (raw bytes ∷ fields)
octets_read text p n parts bytes fields many stands rest =
    let long = length-append bytes (flat_map field_octets fields) in
    let whole : ltb (length text) (p + n) ≡ false = le-ltb _ _ (omega (arith, stands.size, long, many)) in
    let cut : p + n - p ≡ n = omega arith in
    let range : slice_range text p (p + n) ≡ bytes = ap (λ (k : ℕ). take k (drop p text)) cut ∙ ap (take n) stands.rest ∙ take_at bytes (flat_map field_octets fields) n many in
    ap (λ (b : Bool). cond {A = Result (List Field) ℕ} b (Err (length text)) (with_field (raw (slice_range text p (p + n))) (fields_from plain_name_at parts text (p + n)))) whole
    ∙ ap (with_field (raw (slice_range text p (p + n)))) rest
    ∙ ap (λ (x : List ℕ). fields_done (raw x ∷ fields)) range

name_read : (text : List ℕ) (p : ℕ) (parts : List Part) (name : Labels) (fields : List Field) (message : List ℕ) (at after : ℕ) → SpellsNameAt message at name after → Stands text p (named name ∷ fields)
    → fields_from plain_name_at parts text (p + length (octets name)) ≡ fields_done fields → fields_from plain_name_at (one_name ∷ parts) text p ≡ fields_done (named name ∷ fields)
name_read text p parts name fields message at after spelled stands rest =
    name_first parts text p
    ∙ ap (named_then parts text) (plain_name_at-stands text p name (name-can name spelled.is_name) (flat_map field_octets fields, stands.rest))
    ∙ ap (with_field (named name)) rest

strings_read : (text : List ℕ) (p : ℕ) (bytes : List ℕ) → are_strings 0 bytes ≡ true → Stands text p (raw bytes ∷ []) → fields_from plain_name_at (strings ∷ []) text p ≡ fields_done (raw bytes ∷ [])
strings_read text p bytes are stands =
    let range : drop p text ≡ bytes = stands.rest ∙ append-nil bytes in
    let test : are_strings 0 (drop p text) ≡ true = ap (are_strings 0) range ∙ are in
    ap (λ (b : Bool). cond {A = Result (List Field) ℕ} b (with_field (raw (drop p text)) (fields_from plain_name_at [] text (length text))) (Err (length text))) test
    ∙ ap (with_field (raw (drop p text))) (end_read text (length text) refl)
    ∙ ap (λ (x : List ℕ). fields_done (raw x ∷ [])) range

-- ---- all parts, strings the last

abbrev pub StringsLast : List Part → Type 0
StringsLast [] = Unit {0}
StringsLast (some_octets n ∷ parts) = StringsLast parts
StringsLast (one_name ∷ parts) = StringsLast parts
StringsLast (strings ∷ []) = Unit {0}
StringsLast (strings ∷ part ∷ parts) = ⊥

range_length : (message : List ℕ) (at n : ℕ) → at + n ≤ length message → length (slice_range message at (at + n)) ≡ n
range_length message at n within =
    let cut : at + n - at ≡ n = omega arith in
    let left = length-drop at message in
    ap (λ (k : ℕ). length (take k (drop at message))) cut ∙ length-take-le n (drop at message) (omega arith)

pub fields_read : (message : List ℕ) (end : ℕ) → end ≤ length message → (parts : List Part) → StringsLast parts → (at : ℕ) (fields : List Field) → SpellsFields message end at parts fields
    → (text : List ℕ) (p : ℕ) → Stands text p fields → fields_from plain_name_at parts text p ≡ fields_done fields
fields_read message end h [] last at [] s text p stands = end_read text p (omega (arith, stands.size))
fields_read message end h [] last at (f ∷ fields) s text p stands = absurd s
fields_read message end h (some_octets n ∷ parts) last at [] s text p stands = absurd s
fields_read message end h (some_octets n ∷ parts) last at (raw bytes ∷ fields) s text p stands =
    let many : length bytes ≡ n = ap (λ (x : List ℕ). length x) s.1 ∙ range_length message at n (omega (arith, s.0)) in
    octets_read text p n parts bytes fields many stands (fields_read message end h parts last (at + n) fields s.2 text (p + n) (behind text p n (raw bytes) fields many stands))
fields_read message end h (some_octets n ∷ parts) last at (named name ∷ fields) s text p stands = absurd s
fields_read message end h (one_name ∷ parts) last at [] s text p stands = absurd s
fields_read message end h (one_name ∷ parts) last at (raw bytes ∷ fields) s text p stands = absurd s
fields_read message end h (one_name ∷ parts) last at (named name ∷ fields) s text p stands =
    name_read text p parts name fields message at s.0 s.1 stands (fields_read message end h parts last s.0 fields s.3 text (p + length (octets name)) (behind text p (length (octets name)) (named name) fields refl stands))
fields_read message end h (strings ∷ []) last at [] s text p stands = absurd s
fields_read message end h (strings ∷ []) last at (raw bytes ∷ []) s text p stands = strings_read text p bytes (are_strings-spelled bytes s.2) stands
fields_read message end h (strings ∷ []) last at (raw bytes ∷ f ∷ fields) s text p stands = absurd s.3
fields_read message end h (strings ∷ []) last at (named name ∷ fields) s text p stands = absurd s
fields_read message end h (strings ∷ part ∷ parts) last at fields s text p stands = absurd last

-- ---- each kind

abbrev pub AreLast : Option (List Part) → Type 0
AreLast None = Unit {0}
AreLast (Some parts) = StringsLast parts

abbrev shapes : ℕ → List (Bool × Option (List Part))
shapes kind =
    (kind == a_kind, Some (some_octets 4 ∷ []))
    ∷ (kind == aaaa_kind, Some (some_octets 16 ∷ []))
    ∷ (kind == ns_kind, Some (one_name ∷ []))
    ∷ (kind == cname_kind, Some (one_name ∷ []))
    ∷ (kind == ptr_kind, Some (one_name ∷ []))
    ∷ (kind == mx_kind, Some (some_octets 2 ∷ one_name ∷ []))
    ∷ (kind == srv_kind, Some (some_octets 6 ∷ one_name ∷ []))
    ∷ (kind == soa_kind, Some (one_name ∷ one_name ∷ some_octets 20 ∷ []))
    ∷ (kind == txt_kind, Some (strings ∷ []))
    ∷ []

pub shape_last : (kind : ℕ) → AreLast (shape kind)
shape_last kind = chosen-holds AreLast (shapes kind) None (
  λ _. tt,
  λ _. (λ _. tt, λ _. (λ _. tt, λ _. (λ _. tt, λ _. (λ _. tt, λ _. (λ _. tt, λ _. (λ _. tt, λ _. (λ _. tt, λ _. (λ _. tt, λ _. tt)))))))),
)

-- rdata that a message spells, with its names expanded, fits
pub spelled-fits : (kind : ℕ) (message : List ℕ) (at after : ℕ) (rdata : List ℕ) → after ≤ length message → SpellsShape (shape kind) message at after rdata → shape_fits kind rdata ≡ true
spelled-fits kind message at after rdata h spelled = by (shape kind) (shape_last kind) spelled
  where
    by : (o : Option (List Part)) → AreLast o → SpellsShape o message at after rdata → is_ok (elim o as (λ _. Result (List Field) ℕ) [ None ↦ Ok (raw rdata ∷ []) | Some parts ↦ fields_from plain_name_at parts rdata 0 ]) ≡ true
    by None last s = refl
    by (Some parts) last (fields, s, is) =
        ap (λ (text : List ℕ). is_ok (fields_from plain_name_at parts text 0)) is
        ∙ ap (λ (r : Result (List Field) ℕ). is_ok r) (fields_read message after h parts last at fields s (flat_map field_octets fields) 0 (record { rest = refl; size = omega arith }))

-- ---- its length

range-few : (message : List ℕ) (at end : ℕ) → length (slice_range message at end) ≤ length message
range-few message at end =
    let left = length-drop at message in
    let taken = length-take (end - at) (drop at message) in
    omega (arith, left, taken)

-- parts without strings
plain-few : (message : List ℕ) (end : ℕ) → end ≤ length message → (parts : List Part) → IsPlain parts → (at : ℕ) (fields : List Field) → SpellsFields message end at parts fields → length (flat_map field_octets fields) ≤ most parts
plain-few message end h [] is at [] s = omega arith
plain-few message end h [] is at (f ∷ fields) s = absurd s
plain-few message end h (some_octets n ∷ parts) is at [] s = absurd s
plain-few message end h (some_octets n ∷ parts) is at (raw bytes ∷ fields) s =
    let many : length bytes ≡ n = ap (λ (x : List ℕ). length x) s.1 ∙ range_length message at n (omega (arith, s.0, h)) in
    let rest = plain-few message end h parts is (at + n) fields s.2 in
    omega (arith, many, rest, length-append bytes (flat_map field_octets fields))
plain-few message end h (some_octets n ∷ parts) is at (named name ∷ fields) s = absurd s
plain-few message end h (one_name ∷ parts) is at [] s = absurd s
plain-few message end h (one_name ∷ parts) is at (raw bytes ∷ fields) s = absurd s
plain-few message end h (one_name ∷ parts) is at (named name ∷ fields) s =
    let one : length (octets name) ≤ max_name = s.1.is_name.size in
    let rest = plain-few message end h parts is s.0 fields s.3 in
    omega (arith, one, rest, length-append (octets name) (flat_map field_octets fields))
plain-few message end h (strings ∷ parts) is at fields s = absurd is

-- strings alone
text-few : (message : List ℕ) (end at : ℕ) (fields : List Field) → SpellsFields message end at (strings ∷ []) fields → length (flat_map field_octets fields) ≤ length message
text-few message end at [] s = absurd s
text-few message end at (named name ∷ fields) s = absurd s
text-few message end at (raw bytes ∷ f ∷ fields) s = absurd s.3
text-few message end at (raw bytes ∷ []) s =
    let range = ap (λ (x : List ℕ). length x) s.1 in
    let few = range-few message at end in
    omega (arith, range, few, length-append bytes [])

pub spelled-short : (kind : ℕ) (message : List ℕ) (at after : ℕ) (rdata : List ℕ) → after ≤ length message → length message < 2 ^ 16 → SpellsShape (shape kind) message at after rdata → length rdata < 2 ^ 16
spelled-short kind message at after rdata h short spelled = by (shape kind) (shape-sort kind) spelled
  where
    by : (o : Option (List Part)) → Sort o → SpellsShape o message at after rdata → length rdata < 2 ^ 16
    by o (opaque is) s =
        let whole : SpellsShape None message at after rdata = subst (λ (o : Option (List Part)). SpellsShape o message at after rdata) is s in
        let range = ap (λ (x : List ℕ). length x) whole in
        let few = range-few message at after in
        omega (arith, range, few, short)
    by o (plain parts is no_strings small) s =
        let whole : SpellsShape (Some parts) message at after rdata = subst (λ (o : Option (List Part)). SpellsShape o message at after rdata) is s in
        let size = ap (λ (x : List ℕ). length x) whole.2 in
        let few = plain-few message after h parts no_strings at whole.0 whole.1 in
        omega (arith, size, few, small)
    by o (string_text is) s =
        let whole : SpellsShape (Some (strings ∷ [])) message at after rdata = subst (λ (o : Option (List Part)). SpellsShape o message at after rdata) is s in
        let size = ap (λ (x : List ℕ). length x) whole.2 in
        let few = text-few message after at whole.0 whole.1 in
        omega (arith, size, few, short)
