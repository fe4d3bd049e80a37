-- Names in lower case stay as they are in lower case, so the key of each record has such an owner.
use Rattle.std.proofs.Common.{◌≡◌, ℕ, List, [], ◌∷◌, map, refl, ap, ◌∙◌, sym}
use Rattle.std.specs.Char.{to_ascii_lowercase}
use Rattle.std.proofs.lemmas.Str.Ascii.{lowercase-lowercase}
use Rattle.dnsname.specs.Names.{Labels, lower}
use Rattle.rrset.specs.Records.{key_of}
use Rattle.rrset.specs.Tables.{HasLowerOwner}
use Rattle.rrset.specs.declared.record.Rr.{Rr}
use Rattle.rrset.specs.declared.record.Key.{Key}

pub lower_label-twice : (label : List ℕ) → map to_ascii_lowercase (map to_ascii_lowercase label) ≡ map to_ascii_lowercase label
lower_label-twice [] = refl
lower_label-twice (c ∷ cs) = λ i. lowercase-lowercase c i ∷ lower_label-twice cs i

pub lower-twice : (name : Labels) → lower (lower name) ≡ lower name
lower-twice [] = refl
lower-twice (l ∷ ls) = λ i. lower_label-twice l i ∷ lower-twice ls i

pub key_of-lower : (rr : Rr) → HasLowerOwner (key_of rr)
key_of-lower rr = lower-twice rr.owner

pub key_is_lower : (key : Key) (owner : Labels) → key.owner ≡ lower owner → HasLowerOwner key
key_is_lower key owner e = ap lower e ∙ lower-twice owner ∙ sym e
