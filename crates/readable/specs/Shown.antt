-- Octets as a person reads them: harmless characters of UTF-8 as they are, each other octet behind a backslash (RFC 3629, 4; RFC 6763, 4.1.1).
--     plain_size dots text      the octets of the harmless character with which a text begins, 0 where it begins with none
--     shown dots text      how octets are shown
--     shown_name name      how a name is shown
use Rattle.std.specs.Prelude.{ℕ, zero, suc, ◌+◌, ◌*◌, ◌/◌, ◌%◌, Bool, true, false, not, ◌&&◌, ◌||◌, List, [], ◌∷◌, ◌++◌, get_or, length, take, drop, max, nat_le, nat_lt, ◌==◌, if◌then◌else◌}
use Rattle.std.specs.List.{flat_map, list_any}
use Rattle.dnsname.specs.Names.{Labels, octets}
use Rattle.dnsname.specs.Text.{dot, backslash, decimal, is_special}
use Rattle.readable.specs.declared.characters.Dots.{Dots}
use Rattle.readable.specs.declared.characters.Dots.TheVariants as dots

-- the octet at a place, 0 behind the end
abbrev pub octet_at : ℕ → List ℕ → ℕ
octet_at place text = get_or text place 0

abbrev pub is_within : ℕ → ℕ → ℕ → Bool
is_within low high o = nat_le low o && nat_le o high

-- a dot stands as it is
abbrev pub are_plain : Dots → Bool
are_plain dots.Escaped = false
are_plain dots.Plain = true

-- from ' ' to '~', but for a backslash, and for a dot within a label
abbrev pub is_one : Dots → ℕ → Bool
is_one d a = is_within 32 126 a && not (a == backslash) && (not (a == dot) || are_plain d)

-- an octet that continues a character
abbrev pub is_tail : ℕ → Bool
is_tail o = is_within 128 191 o

-- the code point of a character of two, three or four octets: the low bits of each (RFC 3629, 3)
abbrev pub two_point : ℕ → ℕ → ℕ
two_point a b = a % 32 * 64 + b % 64

abbrev pub three_point : ℕ → ℕ → ℕ → ℕ
three_point a b c = a % 16 * 4096 + b % 64 * 64 + c % 64

abbrev pub four_point : ℕ → ℕ → ℕ → ℕ → ℕ
four_point a b c d = a % 8 * 262144 + b % 64 * 4096 + c % 64 * 64 + d % 64

-- The first and the last of each range of characters that look like nothing, turn the direction of a text or separate lines: all that Unicode 15
-- calls Default_Ignorable_Code_Point, but for the variation selectors; U+2028 and U+2029; and the marks of annotations, U+FFF9 to U+FFFB.
abbrev pub hidden : List (ℕ × ℕ)
hidden = (0xad, 0xad) ∷ (0x34f, 0x34f) ∷ (0x61c, 0x61c) ∷ (0x115f, 0x1160) ∷ (0x17b4, 0x17b5) ∷ (0x180e, 0x180e) ∷ (0x200b, 0x200f) ∷ (0x2028, 0x202e) ∷ (0x2060, 0x206f)
    ∷ (0x3164, 0x3164) ∷ (0xfeff, 0xfeff) ∷ (0xffa0, 0xffa0) ∷ (0xfff0, 0xfffb) ∷ (0x1bca0, 0x1bca3) ∷ (0x1d173, 0x1d17a) ∷ (0xe0000, 0xe00ff) ∷ (0xe01f0, 0xe0fff) ∷ []

unfoldable pub is_hidden : ℕ → Bool
is_hidden point = list_any (λ range. is_within range.0 range.1 point) hidden

-- from U+00A0 to U+07FF, but for hidden ones; below U+00A0 are controls
abbrev pub is_two : ℕ → ℕ → Bool
is_two a b = is_within 194 223 a && is_tail b && not (a == 194 && nat_lt b 160) && not (is_hidden (two_point a b))

-- from U+0800 to U+FFFF, but for surrogates and hidden ones
abbrev pub is_three : ℕ → ℕ → ℕ → Bool
is_three a b c = is_within 224 239 a && is_tail b && is_tail c && not (a == 224 && nat_lt b 160) && not (a == 237 && nat_le 160 b) && not (is_hidden (three_point a b c))

-- from U+10000 to U+10FFFF, but for hidden ones
abbrev pub is_four : ℕ → ℕ → ℕ → ℕ → Bool
is_four a b c d = is_within 240 244 a && is_tail b && is_tail c && is_tail d && not (a == 240 && nat_lt b 144) && not (a == 244 && nat_le 144 b) && not (is_hidden (four_point a b c d))

abbrev pub character_size : Dots → ℕ → ℕ → ℕ → ℕ → ℕ
character_size ds a b c d = if is_one ds a then 1 else (if is_two a b then 2 else (if is_three a b c then 3 else (if is_four a b c d then 4 else 0)))

abbrev pub plain_size : Dots → List ℕ → ℕ
plain_size ds text = character_size ds (octet_at 0 text) (octet_at 1 text) (octet_at 2 text) (octet_at 3 text)

-- an octet behind a backslash: a dot or a backslash as it is, another by its three digits
abbrev pub escape : ℕ → List ℕ
escape o = if is_special o then backslash ∷ o ∷ [] else backslash ∷ decimal o

-- what is shown together: a harmless character, or one octet
abbrev pub first_size : Dots → List ℕ → ℕ
first_size ds text = max (plain_size ds text) 1

abbrev pub first_piece : Dots → List ℕ → List ℕ
first_piece ds [] = []
first_piece ds (o ∷ rest) = if plain_size ds (o ∷ rest) == 0 then escape o else take (plain_size ds (o ∷ rest)) (o ∷ rest)

-- so many characters of a text, one after the other
abbrev pub shown_characters : ℕ → Dots → List ℕ → List ℕ
shown_characters zero ds text = []
shown_characters (suc more) ds text = first_piece ds text ++ shown_characters more ds (drop (first_size ds text) text)

-- no text has more characters than octets
abbrev pub shown : Dots → List ℕ → List ℕ
shown ds text = shown_characters (length text) ds text

-- each label with a dot behind it
abbrev pub shown_label : List ℕ → List ℕ
shown_label label = shown dots.Escaped label ++ dot ∷ []

abbrev pub shown_name : Labels → List ℕ
shown_name name = flat_map shown_label name

-- ---- the same, from a name's octets

abbrev pub label_front : List ℕ → List ℕ
label_front [] = []
label_front (size ∷ behind) = take size behind

abbrev pub label_rest : List ℕ → List ℕ
label_rest [] = []
label_rest (size ∷ behind) = drop size behind

-- a label in front of what is shown of the others, nothing at the root's empty one
abbrev pub shown_before : List ℕ → List ℕ → List ℕ
shown_before [] rest = []
shown_before (o ∷ label) rest = shown_label (o ∷ label) ++ rest

abbrev pub shown_parts : ℕ → List ℕ → List ℕ
shown_parts zero text = []
shown_parts (suc more) text = shown_before (label_front text) (shown_parts more (label_rest text))

abbrev pub shown_labels : List ℕ → List ℕ
shown_labels text = shown_parts (length text) text
