-- Texts that are taken line by line, whatever their lines say.
--     lines_taken line draft text      what the lines of a text make of a draft, or the number of the first line outside
--     Takes later draft taken, TakesHeld later IsHeld taken      a further line was taken where it may stand
--     TakesLines all IsHeld taken      how far the lines of a text were taken
use Rattle.std.specs.Prelude.{◌≡◌, ℕ, ◌+◌, Bool, true, false, ◌&&◌, List, [], ◌∷◌, length, Option, Some, None, Result, Ok, Err, nat_lt}
use Rattle.push_base.specs.Cases.{is_empty}
use Rattle.scripts.specs.Scripts.{lines_in, max_script}
use Rattle.scripts.specs.declared.text_lines.TakenLines.{TakenLines}
use Rattle.scripts.specs.declared.text_lines.TakenLines.TheVariants as far

-- The lines from a number on: what they make, and the number behind the last. The last line of a text that is too long is outside.
abbrev pub taken_from : {D : Type 0} → (D → List ℕ → Option D) → Bool → ℕ → D → List (List ℕ) → Result (D × ℕ) ℕ
taken_from line too_long n draft [] = Ok (draft, n)
taken_from line too_long n draft (text ∷ texts) = elim (too_long && is_empty texts) [
  | true ↦ Err n
  | false ↦ elim (line draft text) [ None ↦ Err n | Some later ↦ taken_from line too_long (n + 1) later texts ]
]

-- the line in which octet 16,777,217 stands, which is the last one read, is outside
abbrev pub is_too_long : List ℕ → Bool
is_too_long text = nat_lt max_script (length text)

abbrev pub lines_taken : {D : Type 0} → (D → List ℕ → Option D) → D → List ℕ → Result (D × ℕ) ℕ
lines_taken line draft text = taken_from line (is_too_long text) 1 draft (lines_in text)

-- what the line makes of the draft, or that it may not stand there
abbrev pub Takes : {D : Type 0} → Option D → D → Bool → Type 0
Takes later draft true = later ≡ Some draft
Takes later draft false = later ≡ None

-- the same, where what the line makes is known by what is held of it
abbrev pub TakesHeld : {D : Type 0} → Option D → (D → Type 0) → Bool → Type 0
TakesHeld {D} later IsHeld true = (draft : D) × IsHeld draft × (later ≡ Some draft)
TakesHeld {D} later IsHeld false = later ≡ None

-- what all lines make of the draft, by what is held of it, or which of them is the first outside
abbrev pub TakesLines : {D : Type 0} → Result (D × ℕ) ℕ → (D → Type 0) → TakenLines → Type 0
TakesLines {D} all IsHeld (far.All behind) = (draft : D) × IsHeld draft × (all ≡ Ok (draft, behind))
TakesLines {D} all IsHeld (far.Outside n) = all ≡ Err n
