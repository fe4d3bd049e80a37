-- Rdata that is gone through part by part.
--     part_of      a shape's part, as the code names it
--     field_at      the field that a part begins at a place, and the place after it
--     part_end      the place after a part
--     changed_at, changed_from      a field's octets with its name changed, and the place after it; all octets from a place on
--     changed_name      what a change makes of a name
--     with_octets, appended      octets that have grown, with a place
use Rattle.std.specs.Prelude.{ℕ, ◌+◌, List, ◌++◌, map, length, drop, Option, Some, None, Result, Ok, Err, nat_lt, flat_map, slice_range, if◌then◌else◌}
use Rattle.dnsname.specs.Names.{Labels, lower}
use Rattle.dnsname.specs.Reading.{plain_name_at, place_of}
use Rattle.dnsname.specs.declared.name.NameFault.{NameFault}
use Rattle.rrset.specs.Rdata.{Part, some_octets, one_name, strings, Field, raw, named, field_octets, field_with, are_strings, fields_from, with_suffix}
use Rattle.rrset.specs.declared.renaming.NameChange.{NameChange}
use Rattle.rrset.specs.declared.renaming.NameChange.TheVariants as change
use Rattle.rrset.specs.declared.shape.ShapePart.{ShapePart}
use Rattle.rrset.specs.declared.shape.ShapePart.TheVariants as code

abbrev pub part_of : ShapePart → Part
part_of (code.Octets n) = some_octets n
part_of code.Name = one_name
part_of code.Strings = strings

abbrev pub NameReader : Type 0
NameReader = List ℕ → ℕ → Result (Labels × ℕ) NameFault

abbrev pub field_at : NameReader → ShapePart → List ℕ → ℕ → Result (Field × ℕ) ℕ
field_at read (code.Octets n) text p = if nat_lt (length text) (p + n) then Err (length text) else Ok (raw (slice_range text p (p + n)), p + n)
field_at read code.Name text p = elim (read text p) [ Err fault ↦ Err (place_of fault) | Ok found ↦ Ok (named found.0, found.1) ]
field_at read code.Strings text p = if are_strings 0 (drop p text) then Ok (raw (drop p text), length text) else Err (length text)

abbrev pub end_of : Result (Field × ℕ) ℕ → Option ℕ
end_of (Ok field) = Some field.1
end_of (Err p) = None

-- the place after a part of plain rdata
abbrev pub part_end : ShapePart → List ℕ → ℕ → Option ℕ
part_end part rdata p = end_of (field_at plain_name_at part rdata p)

-- a field with its name changed by f, and the place after it
abbrev pub changed_of : (Labels → Labels) → Result (Field × ℕ) ℕ → Option (List ℕ × ℕ)
changed_of f (Ok field) = Some (field_octets (field_with f field.0), field.1)
changed_of f (Err p) = None

abbrev pub changed_at : (Labels → Labels) → ShapePart → List ℕ → ℕ → Option (List ℕ × ℕ)
changed_at f part rdata p = changed_of f (field_at plain_name_at part rdata p)

abbrev pub changed_field : (Labels → Labels) → Field → List ℕ
changed_field f field = field_octets (field_with f field)

abbrev pub changed_fields : (Labels → Labels) → Result (List Field) ℕ → Option (List ℕ)
changed_fields f (Ok fields) = Some (flat_map (changed_field f) fields)
changed_fields f (Err p) = None

abbrev pub changed_from : (Labels → Labels) → List ShapePart → List ℕ → ℕ → Option (List ℕ)
changed_from f parts rdata p = changed_fields f (fields_from plain_name_at (map part_of parts) rdata p)

abbrev pub with_octets : List ℕ → Option ℕ → Option (List ℕ × ℕ)
with_octets octets None = None
with_octets octets (Some place) = Some (octets, place)

abbrev pub appended : List ℕ → Option (List ℕ × ℕ) → Option (List ℕ × ℕ)
appended front None = None
appended front (Some piece) = Some (front ++ piece.0, piece.1)

abbrev pub changed_name : NameChange → Labels → Labels
changed_name change.Lower name = lower name
changed_name (change.Suffix old new) name = with_suffix old.now new.now name
