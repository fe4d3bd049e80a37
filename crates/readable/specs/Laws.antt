-- Laws of what is shown.
--     is_character, IsHarmless      one harmless character; a text of such alone
--     ShownIsHarmless      what is shown can't reach a terminal as a control, nor hide anything
--     ReadsBack      a name that is shown and typed again is that name
use Rattle.std.specs.Prelude.{◌≡◌, ℕ, ◌<◌, Bool, true, false, List, [], ◌∷◌, Some}
use Rattle.std.specs.List.{AllByRecursion, flat_map}
use Rattle.dnsname.specs.Names.{Labels, IsName}
use Rattle.readable.specs.declared.characters.Dots.{Dots}
use Rattle.readable.specs.Shown.{is_within, is_two, is_three, is_four, shown, shown_name}
use Rattle.readable.specs.Typed.{typed_name}

-- from ' ' to '~', or of two, three or four octets: no control, and none that is hidden (RFC 3629, 3)
abbrev pub is_character : List ℕ → Bool
is_character (a ∷ []) = is_within 32 126 a
is_character (a ∷ b ∷ []) = is_two a b
is_character (a ∷ b ∷ c ∷ []) = is_three a b c
is_character (a ∷ b ∷ c ∷ d ∷ []) = is_four a b c d
is_character _ = false

-- a text that is harmless characters, one behind the other
abbrev pub IsHarmless : List ℕ → Type 0
IsHarmless text = (characters : List (List ℕ)) × AllByRecursion (λ c. is_character c ≡ true) characters × (text ≡ flat_map (λ c. c) characters)

abbrev pub ShownIsHarmless : Type 0
ShownIsHarmless = (dots : Dots) (text : List ℕ) → AllByRecursion (λ o. o < 256) text → IsHarmless (shown dots text)

abbrev pub ReadsBack : Type 0
ReadsBack = (name : Labels) → IsName name → typed_name (shown_name name) ≡ Some name
