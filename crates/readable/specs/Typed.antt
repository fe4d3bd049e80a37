-- Names as people type them (RFC 6763, 4.3): spaces and UTF-8 as they are, and the last dot may be left out.
--     typed_name typed      the name that was typed, if it is one
use Rattle.std.specs.Prelude.{ℕ, Bool, false, not, ◌&&◌, ◌==◌, List, [], ◌∷◌, ◌++◌, Option, Some, None, if◌then◌else◌}
use Rattle.dnsname.specs.Names.{Labels}
use Rattle.dnsname.specs.Text.{dot, backslash, decimal, is_visible, name_of_text}

-- an octet as it is where it is visible, else by its three digits (RFC 1035, 5.1)
abbrev pub strict_octet : ℕ → List ℕ
strict_octet o = if is_visible o then o ∷ [] else backslash ∷ decimal o

-- a backslash that isn't itself behind one quotes what follows
abbrev pub quotes : Bool → ℕ → Bool
quotes quoted o = not quoted && o == backslash

-- A backslash is written with the octet that it quotes: three digits have one of their own, so it isn't written before them.
abbrev pub strict_piece : Bool → ℕ → List ℕ
strict_piece quoted o = if quotes quoted o then [] else (if quoted && is_visible o then backslash ∷ o ∷ [] else strict_octet o)

-- what is left of what was typed, behind a backslash or not; one at the end stays
abbrev pub strict_from : Bool → List ℕ → List ℕ
strict_from quoted [] = if quoted then backslash ∷ [] else []
strict_from quoted (o ∷ rest) = strict_piece quoted o ++ strict_from (quotes quoted o) rest

abbrev pub strict : List ℕ → List ℕ
strict typed = strict_from false typed

abbrev pub typed_name : List ℕ → Option Labels
typed_name typed = elim (name_of_text (strict typed)) [ Some name ↦ Some name | None ↦ name_of_text (strict typed ++ dot ∷ []) ]
