-- The sums over a text, counted line by line.
use Rattle.std.proofs.Common.{◌≡◌, ℕ, zero, suc, ◌+◌, ◌*◌, ◌<◌, ◌≤◌, ◌^◌, List, [], ◌∷◌, map, length, refl, sym, ◌∙◌, ap, arith, codes}
use Rattle.std.specs.Prelude.{sum_by}
use Rattle.std.proofs.lemmas.List.Sums.{sum_by-cons}
use Rattle.scripts.specs.Lines.{Word, words_in}
use Rattle.scripts.specs.Scripts.{lines_in}
use Rattle.big_scripts.specs.Sums.{number_behind, last_words, sums_of_lines, sums_of_text, no_sums}
use Rattle.big_scripts.specs.declared.sums.Sums.{Sums}

abbrev pub with_words : Sums → List Word → Sums
with_words sums words = record { points = number_behind (codes "point") words; held = sums.held + number_behind (codes "held") words; lines = sums.lines + 1 }

abbrev pub counted : Sums → List (List Word) → Sums
counted sums [] = sums
counted sums (words ∷ lines) = counted (with_words sums words) lines

abbrev last_point : ℕ → List (List Word) → ℕ
last_point point [] = point
last_point point (words ∷ lines) = last_point (number_behind (codes "point") words) lines

last_point_is : (point : ℕ) (words : List Word) (lines : List (List Word)) → last_point point (words ∷ lines) ≡ number_behind (codes "point") (last_words (words ∷ lines))
last_point_is point words [] = refl
last_point_is point words (next ∷ lines) = last_point_is (number_behind (codes "point") words) next lines

first_point_is : (lines : List (List Word)) → last_point 0 lines ≡ number_behind (codes "point") (last_words lines)
first_point_is [] = refl
first_point_is (words ∷ lines) = last_point_is 0 words lines

points_counted : (sums : Sums) (lines : List (List Word)) → (counted sums lines).points ≡ last_point sums.points lines
points_counted sums [] = refl
points_counted sums (words ∷ lines) = points_counted (with_words sums words) lines

held_counted : (sums : Sums) (lines : List (List Word)) → (counted sums lines).held ≡ sums.held + sum_by (number_behind (codes "held")) lines
held_counted sums [] = omega arith
held_counted sums (words ∷ lines) =
    let one = number_behind (codes "held") words in
    let rest = sum_by (number_behind (codes "held")) lines in
    let more : (counted sums (words ∷ lines)).held ≡ sums.held + one + rest = held_counted (with_words sums words) lines in
    let all : sum_by (number_behind (codes "held")) (words ∷ lines) ≡ one + rest = sum_by-cons (number_behind (codes "held")) words lines in
    omega (arith, more, all)

lines_counted : (sums : Sums) (lines : List (List Word)) → (counted sums lines).lines ≡ sums.lines + length lines
lines_counted sums [] = omega arith
lines_counted sums (words ∷ lines) =
    let more : (counted sums (words ∷ lines)).lines ≡ sums.lines + 1 + length lines = lines_counted (with_words sums words) lines in
    omega (arith, more)

same_sums : (a b : Sums) → a.points ≡ b.points → a.held ≡ b.held → a.lines ≡ b.lines → a ≡ b
same_sums a b points held lines = λ i. record { points = points i; held = held i; lines = lines i }

pub counted_is : (lines : List (List Word)) → counted no_sums lines ≡ sums_of_lines lines
counted_is lines =
    let held : (counted no_sums lines).held ≡ 0 + sum_by (number_behind (codes "held")) lines = held_counted no_sums lines in
    let all : (counted no_sums lines).lines ≡ 0 + length lines = lines_counted no_sums lines in
    same_sums (counted no_sums lines) (sums_of_lines lines) (points_counted no_sums lines ∙ first_point_is lines) (omega (arith, held)) (omega (arith, all))

-- the lines of a text that are left, and what was counted of those before
pub record IsCounted (text rest : List ℕ) (sums : Sums) : Type 0 where
  pub whole : counted sums (map words_in (lines_in rest)) ≡ sums_of_text text
  pub points : sums.points < 2 ^ 32
  pub held : sums.held ≤ sums.lines * (2 ^ 32)
  pub lines : sums.lines + length rest ≤ length text

pub begins : (text : List ℕ) → IsCounted text text no_sums
begins text = record { whole = counted_is (map words_in (lines_in text)); points = omega arith; held = omega arith; lines = omega arith }

pub more : (text rest line after : List ℕ) (sums : Sums) (point held : ℕ) → IsCounted text rest sums → lines_in rest ≡ line ∷ lines_in after → length after < length rest
    → point ≡ number_behind (codes "point") (words_in line) → held ≡ number_behind (codes "held") (words_in line) → point < 2 ^ 32 → held < 2 ^ 32
    → IsCounted text after (record { points = point; held = sums.held + held; lines = sums.lines + 1 })
more text rest line after sums point held so_far is shorter point_is held_is small few = record {
  whole =
      ap (λ p. counted (record { points = p; held = sums.held + held; lines = sums.lines + 1 }) (map words_in (lines_in after))) point_is
      ∙ ap (λ h. counted (record { points = number_behind (codes "point") (words_in line); held = sums.held + h; lines = sums.lines + 1 }) (map words_in (lines_in after))) held_is
      ∙ sym (ap (λ (ls : List (List ℕ)). counted sums (map words_in ls)) is)
      ∙ so_far.whole;
  points = small;
  held = omega (arith, so_far.held, few);
  lines = omega (arith, so_far.lines, shorter);
}

pub ends : (text : List ℕ) (sums : Sums) → IsCounted text [] sums → sums ≡ sums_of_text text
ends text sums so_far = so_far.whole
