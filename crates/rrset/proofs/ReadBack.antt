-- Rdata that is put together of fields is read as these fields.
--     HasParts parts fields      the fields are of these parts, and each name in them can stand
--     fields-have      fields that are read are of the shape's parts
--     fields-back      such fields are read again from their octets
use Rattle.std.proofs.Common.{◌≡◌, ℕ, ◌+◌, ◌-◌, ◌≤◌, Bool, true, false, cond, eqb, ltb, List, [], ◌∷◌, ◌++◌, length, take, drop, map, Option, Some, None, Result, Ok, Err, refl, sym, ap, subst, ◌∙◌, arith}
use Rattle.std.specs.Prelude.{slice_range, flat_map, ◌==◌}
use Rattle.std.proofs.lemmas.Bool.{eq-eqb, le-ltb, ltb-false}
use Rattle.std.proofs.lemmas.List.{append-nil, length-append, length-drop, length-take-le, drop_at, drop-drop, take_at}
use Rattle.push_base.specs.Cases.{chosen}
use Rattle.dnsname.specs.Names.{Labels, octets}
use Rattle.dnsname.specs.Reading.{Read, plain_name_at, place_of}
use Rattle.dnsname.proofs.ReadAgain.{CanStand, plain_name_at-can, plain_name_at-stands}
use Rattle.rrset.specs.Kinds.{a_kind, ns_kind, cname_kind, soa_kind, ptr_kind, mx_kind, txt_kind, aaaa_kind, srv_kind}
use Rattle.rrset.specs.Rdata.{Part, some_octets, one_name, strings, Field, raw, named, are_strings, with_field, fields_from, field_octets, shape}

abbrev pub HasParts : List Part → List Field → Type 0
HasParts [] [] = Unit {0}
HasParts [] (field ∷ fields) = ⊥
HasParts (part ∷ parts) [] = ⊥
HasParts (some_octets n ∷ parts) (raw bytes ∷ fields) = (length bytes ≡ n) × HasParts parts fields
HasParts (some_octets n ∷ parts) (named name ∷ fields) = ⊥
HasParts (one_name ∷ parts) (raw bytes ∷ fields) = ⊥
HasParts (one_name ∷ parts) (named name ∷ fields) = CanStand 0 name × HasParts parts fields
HasParts (strings ∷ parts) (raw bytes ∷ fields) = (are_strings 0 bytes ≡ true) × HasParts parts fields
HasParts (strings ∷ parts) (named name ∷ fields) = ⊥

-- strings reach to the end
abbrev pub StringsLast : List Part → Type 0
StringsLast [] = Unit {0}
StringsLast (some_octets n ∷ parts) = StringsLast parts
StringsLast (one_name ∷ parts) = StringsLast parts
StringsLast (strings ∷ []) = Unit {0}
StringsLast (strings ∷ part ∷ parts) = ⊥

abbrev pub AreLast : Option (List Part) → Type 0
AreLast None = Unit {0}
AreLast (Some parts) = StringsLast parts

abbrev AllLast : List (Bool × Option (List Part)) → Type 0
AllLast [] = Unit {0}
AllLast (c ∷ cases) = AreLast c.1 × AllLast cases

chosen_last : (cases : List (Bool × Option (List Part))) → AllLast cases → AreLast (chosen cases None)
chosen_last [] h = tt
chosen_last ((true, o) ∷ cases) h = h.0
chosen_last ((false, o) ∷ cases) h = chosen_last cases h.1

pub shape-last : (kind : ℕ) → AreLast (shape kind)
shape-last kind = chosen_last (
    (kind == a_kind, Some (some_octets 4 ∷ []))
    ∷ (kind == aaaa_kind, Some (some_octets 16 ∷ []))
    ∷ (kind == ns_kind, Some (one_name ∷ []))
    ∷ (kind == cname_kind, Some (one_name ∷ []))
    ∷ (kind == ptr_kind, Some (one_name ∷ []))
    ∷ (kind == mx_kind, Some (some_octets 2 ∷ one_name ∷ []))
    ∷ (kind == srv_kind, Some (some_octets 6 ∷ one_name ∷ []))
    ∷ (kind == soa_kind, Some (one_name ∷ one_name ∷ some_octets 20 ∷ []))
    ∷ (kind == txt_kind, Some (strings ∷ []))
    ∷ []) (tt, (tt, (tt, (tt, (tt, (tt, (tt, (tt, (tt, tt)))))))))

-- ---- what is read

abbrev pub fields_done : List Field → Result (List Field) ℕ
fields_done fields = Ok fields

pub not_done : (p : ℕ) (fields : List Field) → Err p ≡ fields_done fields → ⊥
not_done p fields e = cc

pub same_done : (a b : List Field) → fields_done a ≡ fields_done b → a ≡ b
same_done a b e = cc

field_done : (field : Field) (r : Result (List Field) ℕ) (fields : List Field) → with_field field r ≡ fields_done fields → (rest : List Field) × (r ≡ fields_done rest) × (field ∷ rest ≡ fields)
field_done field (Ok rest) fields e = (rest, refl, same_done (field ∷ rest) fields e)
field_done field (Err p) fields e = absurd (not_done p fields e)

abbrev pub named_then : List Part → List ℕ → Read → Result (List Field) ℕ
named_then parts text (Ok found) = with_field (named found.0) (fields_from plain_name_at parts text found.1)
named_then parts text (Err fault) = Err (place_of fault)

pub name_first : (parts : List Part) (text : List ℕ) (p : ℕ) → fields_from plain_name_at (one_name ∷ parts) text p ≡ named_then parts text (plain_name_at text p)
name_first parts text p = by (plain_name_at text p)
  where
    by : (r : Read) → elim r [ Err fault ↦ Err (place_of fault) | Ok found ↦ with_field (named found.0) (fields_from plain_name_at parts text found.1) ] ≡ named_then parts text r
    by (Ok found) = refl
    by (Err fault) = refl

range_length : (text : List ℕ) (p n : ℕ) → p + n ≤ length text → length (slice_range text p (p + n)) ≡ n
range_length text p n within =
    let cut : p + n - p ≡ n = omega arith in
    let left = length-drop p text in
    ap (λ (k : ℕ). length (take k (drop p text))) cut ∙ length-take-le n (drop p text) (omega (arith, left, within))

pub fields-have : (parts : List Part) (text : List ℕ) (p : ℕ) (fields : List Field) → fields_from plain_name_at parts text p ≡ fields_done fields → HasParts parts fields
fields-have [] text p fields e = by (eqb p (length text)) fields e
  where
    by : (b : Bool) (fields : List Field) → cond {A = Result (List Field) ℕ} b (Ok []) (Err p) ≡ fields_done fields → HasParts [] fields
    by true fields e = subst (HasParts []) (same_done [] fields e) tt
    by false fields e = absurd (not_done p fields e)
fields-have (some_octets n ∷ parts) text p fields e = by (ltb (length text) (p + n)) refl e (fields-have parts text (p + n))
  where
    by : (b : Bool) → ltb (length text) (p + n) ≡ b → cond b (Err (length text)) (with_field (raw (slice_range text p (p + n))) (fields_from plain_name_at parts text (p + n))) ≡ fields_done fields
        → ((rest : List Field) → fields_from plain_name_at parts text (p + n) ≡ fields_done rest → HasParts parts rest) → HasParts (some_octets n ∷ parts) fields
    by true is e more = absurd (not_done _ fields e)
    by false is e more =
        let rest = field_done (raw (slice_range text p (p + n))) (fields_from plain_name_at parts text (p + n)) fields e in
        subst (HasParts (some_octets n ∷ parts)) rest.2 (range_length text p n (ltb-false (length text) (p + n) is), more rest.0 rest.1)
fields-have (one_name ∷ parts) text p fields e = by (plain_name_at text p) refl (sym (name_first parts text p) ∙ e) (λ q. fields-have parts text q)
  where
    by : (r : Read) → plain_name_at text p ≡ r → named_then parts text r ≡ fields_done fields
        → ((q : ℕ) (rest : List Field) → fields_from plain_name_at parts text q ≡ fields_done rest → HasParts parts rest) → HasParts (one_name ∷ parts) fields
    by (Err fault) is e more = absurd (not_done _ fields e)
    by (Ok found) is e more =
        let rest = field_done (named found.0) (fields_from plain_name_at parts text found.1) fields e in
        subst (HasParts (one_name ∷ parts)) rest.2 (plain_name_at-can text p found.1 found.0 is, more found.1 rest.0 rest.1)
fields-have (strings ∷ parts) text p fields e = by (are_strings 0 (drop p text)) refl e (fields-have parts text (length text))
  where
    by : (b : Bool) → are_strings 0 (drop p text) ≡ b → cond b (with_field (raw (drop p text)) (fields_from plain_name_at parts text (length text))) (Err (length text)) ≡ fields_done fields
        → ((rest : List Field) → fields_from plain_name_at parts text (length text) ≡ fields_done rest → HasParts parts rest) → HasParts (strings ∷ parts) fields
    by false is e more = absurd (not_done _ fields e)
    by true is e more =
        let rest = field_done (raw (drop p text)) (fields_from plain_name_at parts text (length text)) fields e in
        subst (HasParts (strings ∷ parts)) rest.2 (is, more rest.0 rest.1)

-- ---- what is read again

-- the fields' octets stand in a text, from a place to its end
pub record Stands (text : List ℕ) (p : ℕ) (fields : List Field) : Type 0 where
  pub rest : drop p text ≡ flat_map field_octets fields
  pub size : length text ≡ p + length (flat_map field_octets fields)

behind : (text : List ℕ) (p n : ℕ) (field : Field) (fields : List Field) → length (field_octets field) ≡ n → Stands text p (field ∷ fields) → Stands text (p + n) fields
behind text p n field fields long stands = record {
  rest = sym (drop-drop n p text) ∙ ap (drop n) stands.rest ∙ drop_at (field_octets field) (flat_map field_octets fields) n long;
  size = omega (arith, stands.size, long, length-append (field_octets field) (flat_map field_octets fields));
}

end_read : (text : List ℕ) (p : ℕ) → length text ≡ p → fields_from plain_name_at [] text p ≡ fields_done []
end_read text p long = ap (λ (b : Bool). cond {A = Result (List Field) ℕ} b (Ok []) (Err p)) (eq-eqb p (length text) (sym long))

octets_read : (text : List ℕ) (p n : ℕ) (parts : List Part) (bytes : List ℕ) (fields : List Field) → length bytes ≡ n → Stands text p (raw bytes ∷ fields)
    → fields_from plain_name_at parts text (p + n) ≡ fields_done fields → fields_from plain_name_at (some_octets n ∷ parts) text p ≡ fields_done (raw bytes ∷ fields)
octets_read text p n parts bytes fields many stands rest =
    let long = length-append bytes (flat_map field_octets fields) in
    let whole : ltb (length text) (p + n) ≡ false = le-ltb _ _ (omega (arith, stands.size, long, many)) in
    let cut : p + n - p ≡ n = omega arith in
    let range : slice_range text p (p + n) ≡ bytes = ap (λ (k : ℕ). take k (drop p text)) cut ∙ ap (take n) stands.rest ∙ take_at bytes (flat_map field_octets fields) n many in
    ap (λ (b : Bool). cond {A = Result (List Field) ℕ} b (Err (length text)) (with_field (raw (slice_range text p (p + n))) (fields_from plain_name_at parts text (p + n)))) whole
    ∙ ap (with_field (raw (slice_range text p (p + n)))) rest
    ∙ ap (λ (x : List ℕ). fields_done (raw x ∷ fields)) range

pub fields-back : (parts : List Part) → StringsLast parts → (fields : List Field) → HasParts parts fields → (text : List ℕ) (p : ℕ) → Stands text p fields → fields_from plain_name_at parts text p ≡ fields_done fields
fields-back [] last [] has text p stands = end_read text p (omega (arith, stands.size))
fields-back [] last (field ∷ fields) has text p stands = absurd has
fields-back (some_octets n ∷ parts) last [] has text p stands = absurd has
fields-back (some_octets n ∷ parts) last (raw bytes ∷ fields) has text p stands =
    octets_read text p n parts bytes fields has.0 stands (fields-back parts last fields has.1 text (p + n) (behind text p n (raw bytes) fields has.0 stands))
fields-back (some_octets n ∷ parts) last (named name ∷ fields) has text p stands = absurd has
fields-back (one_name ∷ parts) last [] has text p stands = absurd has
fields-back (one_name ∷ parts) last (raw bytes ∷ fields) has text p stands = absurd has
fields-back (one_name ∷ parts) last (named name ∷ fields) has text p stands =
    name_first parts text p
    ∙ ap (named_then parts text) (plain_name_at-stands text p name has.0 (flat_map field_octets fields, stands.rest))
    ∙ ap (with_field (named name)) (fields-back parts last fields has.1 text (p + length (octets name)) (behind text p (length (octets name)) (named name) fields refl stands))
fields-back (strings ∷ []) last [] has text p stands = absurd has
fields-back (strings ∷ []) last (raw bytes ∷ []) has text p stands =
    let range : drop p text ≡ bytes = stands.rest ∙ append-nil bytes in
    ap (λ (b : Bool). cond {A = Result (List Field) ℕ} b (with_field (raw (drop p text)) (fields_from plain_name_at [] text (length text))) (Err (length text))) (ap (are_strings 0) range ∙ has.0)
    ∙ ap (with_field (raw (drop p text))) (end_read text (length text) refl)
    ∙ ap (λ (x : List ℕ). fields_done (raw x ∷ [])) range
fields-back (strings ∷ []) last (raw bytes ∷ field ∷ fields) has text p stands = absurd has.1
fields-back (strings ∷ []) last (named name ∷ fields) has text p stands = absurd has
fields-back (strings ∷ part ∷ parts) last fields has text p stands = absurd last

pub fields-again : (parts : List Part) → StringsLast parts → (fields : List Field) → HasParts parts fields → fields_from plain_name_at parts (flat_map field_octets fields) 0 ≡ fields_done fields
fields-again parts last fields has = fields-back parts last fields has (flat_map field_octets fields) 0 (record { rest = refl; size = omega arith })
