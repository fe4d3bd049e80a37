-- The text of names: each label with a dot after it, and a dot alone for the root (RFC 1035, 5.1).
--     name_text      how a name is written
--     SpellsText      which texts are read as a name
--     name_of_text      the name that a text is read as
use Rattle.std.specs.Prelude.{◌≡◌, ℕ, zero, suc, ◌+◌, ◌-◌, ◌*◌, ◌/◌, ◌%◌, ◌<◌, ◌⊎◌, List, [], ◌∷◌, ◌++◌, Bool, Option, Some, None, Result, Ok, Err, option_and_then, unwrap_or, nat_le, ◌==◌, ◌&&◌, ◌||◌, if◌then◌else◌}
use Rattle.std.specs.List.{flat_map}
use Rattle.dnsname.specs.declared.name.TextFault.{TextFault}
use Rattle.dnsname.specs.declared.name.TextFault.TheVariants.{Form, NoMemory}
use Rattle.dnsname.specs.Names.{Labels, IsName, is_name}

abbrev pub dot : ℕ
dot = 46

abbrev pub backslash : ℕ
backslash = 92

-- the three digits of an octet, by their codes from 48 on
abbrev pub decimal : ℕ → List ℕ
decimal o = (48 + o / 100) ∷ (48 + o / 10 % 10) ∷ (48 + o % 10) ∷ []

abbrev pub is_special : ℕ → Bool
is_special o = (o == dot) || (o == backslash)

-- from `!` to `~`
abbrev pub is_visible : ℕ → Bool
is_visible o = nat_le 33 o && nat_le o 126

-- a dot or a backslash behind a backslash, every other visible character as it is, and every other octet as a
-- backslash and its three digits
abbrev pub octet_text : ℕ → List ℕ
octet_text o =
    if is_special o then backslash ∷ o ∷ []
    else (if is_visible o then o ∷ [] else backslash ∷ decimal o)

abbrev pub label_text : List ℕ → List ℕ
label_text label = flat_map octet_text label ++ dot ∷ []

-- how a name is written
abbrev pub name_text : Labels → List ℕ
name_text [] = dot ∷ []
name_text (label ∷ name) = flat_map label_text (label ∷ name)

-- what is read as an octet: its text, or a backslash and its three digits; that no other character may stand behind
-- a backslash is this project's own (RFC 1035, 5.1 reads more)
abbrev pub IsOctetText : List ℕ → ℕ → Type 0
IsOctetText text o = (o < 256) × ((text ≡ octet_text o) ⊎ (text ≡ backslash ∷ decimal o))

-- a text begins with a label and its dot, and ends with the rest
abbrev pub BeginsWithLabel : List ℕ → List ℕ → List ℕ → Type 0
BeginsWithLabel text [] rest = text ≡ dot ∷ rest
BeginsWithLabel text (o ∷ label) rest =
    (first more : List ℕ) × (text ≡ first ++ more) × IsOctetText first o × BeginsWithLabel more label rest

-- a text is these labels, each with its dot
abbrev pub AreLabelTexts : List ℕ → Labels → Type 0
AreLabelTexts text [] = text ≡ []
AreLabelTexts text (label ∷ labels) =
    (rest : List ℕ) × BeginsWithLabel text label rest × AreLabelTexts rest labels

-- what is read as a name
abbrev pub SpellsText : List ℕ → Labels → Type 0
SpellsText text [] = text ≡ dot ∷ []
SpellsText text (label ∷ name) = IsName (label ∷ name) × AreLabelTexts text (label ∷ name)

-- ---- reading from left to right: what the relations say, as functions

-- the octet of three digits, and what follows
abbrev pub octet_of_digits : ℕ → ℕ → ℕ → ℕ
octet_of_digits a b c = (a - 48) * 100 + (b - 48) * 10 + (c - 48)

abbrev pub are_digits_of : ℕ → ℕ → ℕ → ℕ → Bool
are_digits_of o a b c = nat_le o 255 && (a == 48 + o / 100) && (b == 48 + o / 10 % 10) && (c == 48 + o % 10)

abbrev pub digits_in : List ℕ → Option (ℕ × List ℕ)
digits_in (a ∷ b ∷ c ∷ rest) = if are_digits_of (octet_of_digits a b c) a b c then Some (octet_of_digits a b c, rest) else None
digits_in text = None

-- the octet behind a `\`, and what follows: `\.`, `\\` and three digits are read (this project's own; RFC 1035, 5.1 reads more)
abbrev pub escape_in : List ℕ → Option (ℕ × List ℕ)
escape_in [] = None
escape_in (c ∷ rest) = if is_special c then Some (c, rest) else digits_in (c ∷ rest)

-- the first octet, and what follows
abbrev pub octet_in : List ℕ → Option (ℕ × List ℕ)
octet_in [] = None
octet_in (c ∷ rest) = if c == 92 then escape_in rest else (if is_special c then None else (if is_visible c then Some (c, rest) else None))

-- the first label, of less than so many octets, and what follows its dot
abbrev pub label_in : ℕ → List ℕ → Option (List ℕ × List ℕ)
label_in zero text = None
label_in (suc more) [] = None
label_in (suc more) (c ∷ rest) = if c == 46 then Some ([], rest)
    else option_and_then (λ o. option_and_then (λ label. Some (o.0 ∷ label.0, label.1)) (label_in more o.1)) (octet_in (c ∷ rest))

-- the labels of a text, less than so many
abbrev pub labels_in_text : ℕ → List ℕ → Option Labels
labels_in_text zero text = None
labels_in_text (suc more) [] = Some []
labels_in_text (suc more) (c ∷ rest) = option_and_then (λ label. option_and_then (λ labels. Some (label.0 ∷ labels)) (labels_in_text more label.1)) (label_in 64 (c ∷ rest))

-- the name that a text is
abbrev pub name_of_text : List ℕ → Option Labels
name_of_text [] = None
name_of_text (c ∷ []) = if c == 46 then Some [] else None
name_of_text (c ∷ d ∷ rest) = option_and_then (λ name. if is_name name then Some name else None) (labels_in_text 128 (c ∷ d ∷ rest))

-- a call gives the name that is read, or none for a text that is no name's, unless memory ran out
abbrev pub GivesName : Result Labels TextFault → Option Labels → Type 0
GivesName (Ok name) read = read ≡ Some name
GivesName (Err Form) read = read ≡ None
GivesName (Err NoMemory) read = Unit {0}

-- the name of a text that is one, for examples; of any other text the root
abbrev pub name : List ℕ → Labels
name text = unwrap_or (name_of_text text) []
