-- The shapes of rdata (RFC 1035, 3.3 and 3.4; RFC 3596, 2.2; RFC 2782), its names, and how it is read from a message.
--     shape kind      the parts of a kind's rdata
--     shape_fits kind rdata      plain rdata has the shape of its kind
--     rdata_names, with_names, lowered_rdata      the names inside; rdata with other names; with its names in lower case
--     with_suffix old new name      a name with other last labels, where that makes a name
--     rdata_at kind message at end      the rdata between two places, names expanded, or the place of the fault
use Rattle.std.specs.Prelude.{ℕ, zero, suc, ◌+◌, Bool, true, false, List, [], ◌∷◌, length, take, drop, Option, Some, None, Result, Ok, Err, nat_lt, nat_le, ◌&&◌, ◌==◌, flat_map, is_ok, slice_range, if◌then◌else◌}
use Rattle.push_base.specs.Cases.{chosen, ◌>>=◌}
use Rattle.dnsname.specs.Names.{Labels, max_name, octets, lower, ends_in, swapped_suffix}
use Rattle.dnsname.specs.Reading.{name_up_to, plain_name_at, place_of}
use Rattle.dnsname.specs.declared.name.NameFault.{NameFault}
use Rattle.rrset.specs.Kinds.{a_kind, ns_kind, cname_kind, soa_kind, ptr_kind, mx_kind, txt_kind, aaaa_kind, srv_kind}

-- a part of a shape: so many octets, a name, or counted strings up to the end
pub data Part : Type 0 where
  some_octets : ℕ → Part
  one_name : Part
  strings : Part

-- the parts of a kind's rdata; a kind without a shape is opaque. That TXT may have no string, and that rdata of other
-- kinds may have any length, is this project's own.
abbrev pub shape : ℕ → Option (List Part)
shape kind = chosen (
    (kind == a_kind, Some (some_octets 4 ∷ []))
    ∷ (kind == aaaa_kind, Some (some_octets 16 ∷ []))
    ∷ (kind == ns_kind, Some (one_name ∷ []))
    ∷ (kind == cname_kind, Some (one_name ∷ []))
    ∷ (kind == ptr_kind, Some (one_name ∷ []))
    ∷ (kind == mx_kind, Some (some_octets 2 ∷ one_name ∷ []))
    ∷ (kind == srv_kind, Some (some_octets 6 ∷ one_name ∷ []))
    ∷ (kind == soa_kind, Some (one_name ∷ one_name ∷ some_octets 20 ∷ []))
    ∷ (kind == txt_kind, Some (strings ∷ []))
    ∷ []) None

-- what a part holds
pub data Field : Type 0 where
  raw : List ℕ → Field
  named : Labels → Field

-- whole counted strings, where the string that has begun still wants so many octets (RFC 1035, 3.3)
abbrev pub are_strings : ℕ → List ℕ → Bool
are_strings zero [] = true
are_strings (suc wanted) [] = false
are_strings zero (c ∷ cs) = are_strings c cs
are_strings (suc wanted) (c ∷ cs) = are_strings wanted cs

abbrev pub with_field : Field → Result (List Field) ℕ → Result (List Field) ℕ
with_field field (Err p) = Err p
with_field field (Ok fields) = Ok (field ∷ fields)

-- The fields from a place to the text's end. The fault is the place of a name's fault, the first octet after the shape, or the end where the shape wants more.
abbrev pub fields_from : (List ℕ → ℕ → Result (Labels × ℕ) NameFault) → List Part → List ℕ → ℕ → Result (List Field) ℕ
fields_from read [] text p = if p == length text then Ok [] else Err p
fields_from read (some_octets n ∷ parts) text p = if nat_lt (length text) (p + n) then Err (length text) else with_field (raw (slice_range text p (p + n))) (fields_from read parts text (p + n))
fields_from read (one_name ∷ parts) text p = elim (read text p) [ Err fault ↦ Err (place_of fault) | Ok found ↦ with_field (named found.0) (fields_from read parts text found.1) ]
fields_from read (strings ∷ parts) text p = if are_strings 0 (drop p text) then with_field (raw (drop p text)) (fields_from read parts text (length text)) else Err (length text)

abbrev pub field_octets : Field → List ℕ
field_octets (raw bytes) = bytes
field_octets (named name) = octets name

-- the fields of plain rdata; opaque rdata is one field
abbrev pub rdata_fields : ℕ → List ℕ → Result (List Field) ℕ
rdata_fields kind rdata = elim (shape kind) [ None ↦ Ok (raw rdata ∷ []) | Some parts ↦ fields_from plain_name_at parts rdata 0 ]

abbrev pub shape_fits : ℕ → List ℕ → Bool
shape_fits kind rdata = is_ok (rdata_fields kind rdata)

abbrev pub field_names : Field → List Labels
field_names (raw bytes) = []
field_names (named name) = name ∷ []

-- the names inside; rdata that doesn't fit has none
abbrev pub rdata_names : ℕ → List ℕ → List Labels
rdata_names kind rdata = elim (rdata_fields kind rdata) [ Err p ↦ [] | Ok fields ↦ flat_map field_names fields ]

abbrev pub field_with : (Labels → Labels) → Field → Field
field_with f (raw bytes) = raw bytes
field_with f (named name) = named (f name)

-- each name inside replaced; rdata that doesn't fit is taken as it is
abbrev pub with_names : (Labels → Labels) → ℕ → List ℕ → List ℕ
with_names f kind rdata = elim (rdata_fields kind rdata) [ Err p ↦ rdata | Ok fields ↦ flat_map (λ field. field_octets (field_with f field)) fields ]

-- a name with new in the place of the last labels old, where it ends in them and that makes a name (RFC 1035, 2.3.4); any other as it is
abbrev pub with_suffix : Labels → Labels → Labels → Labels
with_suffix old new name = if ends_in name old && nat_le (length (octets (swapped_suffix name old new))) max_name then swapped_suffix name old new else name

abbrev pub lowered_rdata : ℕ → List ℕ → List ℕ
lowered_rdata kind rdata = with_names lower kind rdata

-- rdata in a message, from a place up to another: pointers in its names are followed, also to what reaches further (RFC 1035, 4.1.4)
abbrev pub rdata_at : ℕ → List ℕ → ℕ → ℕ → Result (List ℕ) ℕ
rdata_at kind message at end = elim (shape kind) [
  | None ↦ Ok (slice_range message at end)
  | Some parts ↦ fields_from (λ _. name_up_to end message) parts (take end message) at >>= λ fields. Ok (flat_map field_octets fields)
]
