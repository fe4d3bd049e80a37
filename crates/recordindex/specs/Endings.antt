-- In which names owners end properly (RFC 1034, 3.1). A name's place among what is kept goes by its octets.
--     ends_of name      the name and each name that it ends in
--     above_name, names_above      a name with the names that it has behind its first label; those of several names
--     same_octets a b      they are the same
--     is_among octets room      such octets have a place
--     HasRoomAt room name, HasRoomFor name room      each end of a name has one; each end of what is behind its first label
--     Kept      what is kept: at octets, how many names with a label more are counted
--     SuffixesState      what is kept, and how many owners there are
--     ending_at octets kept, number_or found      what is counted at octets, if they have a place; the number that is found, or 0
--     counted_at, used_at octets kept      how many names with a label more are counted there; whether some are
--     changed_at octets change kept      what is kept, changed there
--     once_more, once_less      the changes: one name counted more, one less
--     room_of kept      the octets that have a place
--     times octets names      how many of the names have these octets
--     IsLowerName octets, AreLowerNames kept      they are a name's, in lower case; those of each place are
--     AreLow names      they are names in lower case
--     is_used count      something in use, or an owner, has a label more
--     above_of octets, IsLeft, IsLowLeft octets      what is left behind the first label; these are a name's, or none; a name's in lower case
--     HasRoomFrom octets room      each end of the name that they are has a place
--     weight, using octets kept      one, if both hold; how many of what is kept are in use, and have these octets behind the first label
--     Agrees names kept      each name counts the names that it is, and those in use that have a label more
--     Lacks, Exceeds octets names kept      it does, but that at these octets one is missing, or one is too many
--     AreCounted owners state      each name counts the owners with a label more, as often as they are there, and the names in use with one
--     Reserves was now      there may be more places, and nothing else changed
use Rattle.std.specs.Prelude.{◌≡◌, ℕ, ◌+◌, ◌-◌, ◌≤◌, Bool, true, cond, List, [], ◌∷◌, length, get_or, drop, map, nat_lt, Option, Vec}
use Rattle.std.specs.declared.alloc.Global.{Global}
use Rattle.std.specs.Cmp.Lexicographic.{slice_cmp}
use Rattle.std.specs.List.{AllByRecursion, list_any}
use Rattle.std.specs.Map.{lookup}
use Rattle.std.specs.Option.{option_map_or}
use Rattle.std.specs.Ordering.{is_eq, nat_cmp}
use Rattle.dnsname.specs.Names.{IsName, Labels, SpellsName, lower, octets}
use Rattle.dnsname.specs.Octets.{labels_of}

abbrev pub ends_of : Labels → List Labels
ends_of [] = [] ∷ []
ends_of (label ∷ name) = (label ∷ name) ∷ ends_of name

abbrev pub above_name : Labels → List Labels → List Labels
above_name [] names = names
above_name (label ∷ name) names = name ∷ names

abbrev pub names_above : List Labels → List Labels
names_above [] = []
names_above (owner ∷ owners) = above_name owner (names_above owners)

abbrev pub same_octets : List ℕ → List ℕ → Bool
same_octets a b = is_eq (slice_cmp nat_cmp a b)

abbrev pub is_among : List ℕ → List (List ℕ) → Bool
is_among os room = list_any (same_octets os) room

abbrev pub HasRoomAt : List (List ℕ) → Labels → Type 0
HasRoomAt room name = AllByRecursion (λ end. is_among (octets end) room ≡ true) (ends_of name)

abbrev pub HasRoomFor : Labels → List (List ℕ) → Type 0
HasRoomFor name room = AllByRecursion (HasRoomAt room) (above_name name [])

abbrev pub Kept : Type 0
Kept = List (Vec ℕ Global × ℕ)

-- what is kept, and how many owners there are, each as often as it is there
pub record SuffixesState : Type 0 where
  pub kept : Kept
  pub total : ℕ

abbrev pub number_or : Option ℕ → ℕ
number_or found = option_map_or (λ (count : ℕ). count) found 0

abbrev pub ending_at : List ℕ → Kept → Option ℕ
ending_at os kept = lookup (λ key. same_octets os key.items) kept

abbrev pub counted_at : List ℕ → Kept → ℕ
counted_at os kept = number_or (ending_at os kept)

abbrev pub is_used : ℕ → Bool
is_used count = nat_lt 0 count

abbrev pub used_at : List ℕ → Kept → Bool
used_at os kept = is_used (counted_at os kept)

abbrev pub changed_at : List ℕ → (ℕ → ℕ) → Kept → Kept
changed_at os change [] = []
changed_at os change (e ∷ es) = cond (same_octets os e.0.items) ((e.0, change e.1) ∷ es) (e ∷ changed_at os change es)

abbrev pub once_more : ℕ → ℕ
once_more count = count + 1

abbrev pub once_less : ℕ → ℕ
once_less count = count - 1

abbrev pub room_of : Kept → List (List ℕ)
room_of kept = map (λ e. e.0.items) kept

abbrev pub times : List ℕ → List Labels → ℕ
times os [] = 0
times os (name ∷ names) = cond (same_octets os (octets name)) 1 0 + times os names

pub record IsLowerName (os : List ℕ) : Type 0 where
  pub spells : SpellsName os (labels_of os)
  pub lower : lower (labels_of os) ≡ labels_of os

abbrev pub AreLowerNames : Kept → Type 0
AreLowerNames kept = AllByRecursion IsLowerName (room_of kept)

abbrev pub AreLow : List Labels → Type 0
AreLow names = AllByRecursion (λ name. lower name ≡ name) names

abbrev pub above_of : List ℕ → List ℕ
above_of os = drop (get_or os 0 0 + 1) os

-- octets that are left of a name's
pub record IsLeft (os : List ℕ) : Type 0 where
  pub name : 1 ≤ length os → (name : Labels) × (os ≡ octets name)

-- octets that are left of those of a name in lower case
pub record IsLowLeft (os : List ℕ) : Type 0 where
  pub name : 1 ≤ length os → (name : Labels) × (os ≡ octets name) × IsName name × (lower name ≡ name)

abbrev pub HasRoomFrom : List ℕ → List (List ℕ) → Type 0
HasRoomFrom os room = (name : Labels) → os ≡ octets name → HasRoomAt room name

abbrev pub weight : Bool → Bool → ℕ
weight counts here = cond counts (cond here 1 0) 0

abbrev pub using : List ℕ → Kept → ℕ
using os [] = 0
using os (e ∷ es) = weight (is_used e.1) (same_octets os (above_of e.0.items)) + using os es

abbrev pub Agrees : List Labels → Kept → Type 0
Agrees names kept = (os : List ℕ) → 1 ≤ length os → counted_at os kept ≡ times os names + using os kept

abbrev pub Lacks : List ℕ → List Labels → Kept → Type 0
Lacks at names kept = (os : List ℕ) → 1 ≤ length os → cond (same_octets os at) 1 0 + counted_at os kept ≡ times os names + using os kept

abbrev pub Exceeds : List ℕ → List Labels → Kept → Type 0
Exceeds at names kept = (os : List ℕ) → 1 ≤ length os → counted_at os kept ≡ cond (same_octets os at) 1 0 + (times os names + using os kept)

pub record AreCounted (owners : List Labels) (state : SuffixesState) : Type 0 where
  pub counts : Agrees (names_above owners) state.kept
  pub total : length owners ≡ state.total

pub record Reserves (was now : Kept) : Type 0 where
  pub counts : (os : List ℕ) → counted_at os now ≡ counted_at os was
  pub using : (os : List ℕ) → using os now ≡ using os was
  pub kept : (os : List ℕ) → is_among os (room_of was) ≡ true → is_among os (room_of now) ≡ true
  pub names : AreLowerNames was → AreLowerNames now
