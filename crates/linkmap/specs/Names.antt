-- Names as the code goes through them: spelled in octets, and inside rdata.
--     is_renamable old new name      the name doesn't end in the new last labels, and fits with them in place of the old ones
--     tested_at p part rdata place      the place after a part, and whether the name there, if one is there, passes
--     all_pass p fields      each name in the fields passes
use Rattle.std.specs.Prelude.{ℕ, Bool, not, ◌&&◌, true, List, Option, Some, None, Result, Ok, Err, flat_map}
use Rattle.std.specs.List.{list_all}
use Rattle.dnsname.specs.Names.{Labels, ends_in}
use Rattle.dnsname.specs.Reading.{plain_name_at}
use Rattle.rrset.specs.Rdata.{Field, field_names}
use Rattle.rrset.specs.Parts.{field_at}
use Rattle.rrset.specs.declared.shape.ShapePart.{ShapePart}
use Rattle.linkmap.specs.Translation.{renamed, fits_a_name}

abbrev pub is_renamable : Labels → Labels → Labels → Bool
is_renamable old new name = not (ends_in name new) && fits_a_name (renamed old new name)

abbrev pub tested_of : (Labels → Bool) → Result (Field × ℕ) ℕ → Option (ℕ × Bool)
tested_of p (Ok field) = Some (field.1, list_all p (field_names field.0))
tested_of p (Err place) = None

abbrev pub tested_at : (Labels → Bool) → ShapePart → List ℕ → ℕ → Option (ℕ × Bool)
tested_at p part rdata place = tested_of p (field_at plain_name_at part rdata place)

-- fields that were not read have no names
abbrev pub all_pass : (Labels → Bool) → Result (List Field) ℕ → Bool
all_pass p (Ok fields) = list_all p (flat_map field_names fields)
all_pass p (Err place) = true
