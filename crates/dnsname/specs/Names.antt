-- Names of the DNS: labels, case, suffixes.
--     IsName, is_name      what a name is, and its test
--     octets, lower      a name's octets; its letters in lower case
--     IsSame, same_name      two names are one, but for case
--     EndsIn, ends_in      a name ends in another, but for case
--     SpellsName      which octets are a name's
--     swapped_suffix      a name with another suffix in place of the one that it has
--     home      the longest of several names that a name ends in
use Rattle.std.specs.Prelude.{◌≡◌, ℕ, ◌-◌, ◌<◌, ◌≤◌, Bool, ◌&&◌, List, [], ◌∷◌, ◌++◌, length, map, take, filter, Option, Some, None, nat_le, nat_lt, if◌then◌else◌}
use Rattle.std.specs.List.{flat_map, AllByRecursion, list_all, ends_with}
use Rattle.std.specs.Char.{to_ascii_lowercase}
use Rattle.std.specs.Str.{bytes_eq}
use Rattle.dnsname.specs.declared.part.TheConstants as part
use Rattle.dnsname.specs.declared.text.TheConstants as text

-- the labels, the innermost first, without the empty one of the root (RFC 1035, 3.1)
abbrev pub Labels : Type 0
Labels = List (List ℕ)

-- the most octets of a label, and of a name (RFC 1035, 2.3.4)
abbrev pub max_label : ℕ
max_label = text.MAX_LABEL

abbrev pub max_name : ℕ
max_name = part.MAX_NAME

-- 1 to 63 octets (RFC 1035, 2.3.4)
pub record IsLabel (label : List ℕ) : Type 0 where
  pub octets : AllByRecursion (λ o. o < 256) label
  pub some : 1 ≤ length label
  pub few : length label ≤ max_label

abbrev pub is_label : List ℕ → Bool
is_label label = list_all (λ o. nat_lt o 256) label && nat_le 1 (length label) && nat_le (length label) max_label

-- a label's length in one octet, and then the label (RFC 1035, 3.1)
abbrev pub label_octets : List ℕ → List ℕ
label_octets label = length label ∷ label

abbrev pub labels_octets : Labels → List ℕ
labels_octets labels = flat_map label_octets labels

-- its labels and the length 0 (RFC 1035, 3.1)
abbrev pub octets : Labels → List ℕ
octets name = labels_octets name ++ 0 ∷ []

-- labels that take at most 255 octets in all (RFC 1035, 2.3.4)
pub record IsName (name : Labels) : Type 0 where
  pub labels : AllByRecursion IsLabel name
  pub size : length (octets name) ≤ max_name

abbrev pub is_name : Labels → Bool
is_name name = list_all is_label name && nat_le (length (octets name)) max_name

-- the octets of a name, without pointers
pub record SpellsName (text : List ℕ) (name : Labels) : Type 0 where
  pub is_name : IsName name
  pub spelled : text ≡ octets name

-- the name in lower case, by ASCII letters alone (RFC 1035, 2.3.3)
abbrev pub lower : Labels → Labels
lower name = map (map to_ascii_lowercase) name

-- one label, but for upper and lower case (RFC 1035, 2.3.3)
abbrev pub same_label : List ℕ → List ℕ → Bool
same_label a b = bytes_eq (map to_ascii_lowercase a) (map to_ascii_lowercase b)

-- one name, but for upper and lower case (RFC 1035, 2.3.3)
abbrev pub IsSame : Labels → Labels → Type 0
IsSame name other = lower name ≡ lower other

abbrev pub same_name : Labels → Labels → Bool
same_name name other = bytes_eq (octets (lower name)) (octets (lower other))

-- the last labels of the name are those of the suffix, but for upper and lower case (RFC 1034, 3.1)
abbrev pub EndsIn : Labels → Labels → Type 0
EndsIn name suffix = (front last : Labels) × (name ≡ front ++ last) × IsSame last suffix

abbrev pub ends_in : Labels → Labels → Bool
ends_in name suffix = ends_with same_label name suffix

-- the name with as many last labels as old has replaced by new
abbrev pub swapped_suffix : Labels → Labels → Labels → Labels
swapped_suffix name old new = take (length name - length old) name ++ new

abbrev pub longest : List Labels → Option Labels
longest [] = None
longest (x ∷ xs) = elim (longest xs) [ None ↦ Some x | Some y ↦ if nat_lt (length x) (length y) then Some y else Some x ]

-- the home of a name is the longest one that it ends in (RFC 1034, 4.3.2)
abbrev pub home : List Labels → Labels → Option Labels
home homes name = longest (filter (λ h. ends_in name h) homes)
