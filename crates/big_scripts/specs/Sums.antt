-- What the texts of scripts tell, in numbers.
--     number_behind name words      the number behind a word
--     sums_of_text text      the point in the last line, how many records are held, and the lines
--     added sums more      the sums of both
use Rattle.std.specs.Prelude.{ℕ, ◌+◌, List, [], ◌∷◌, map, sum_by, length, codes, if◌then◌else◌}
use Rattle.scripts.specs.Lines.{Word, is, words_in, number, max_u32}
use Rattle.scripts.specs.Scripts.{lines_in}
use Rattle.replay.specs.Text.{number_or_zero}
use Rattle.big_scripts.specs.declared.sums.Sums.{Sums}

-- the number below 2^32 that the first word is, or 0
abbrev pub first_number : List Word → ℕ
first_number [] = 0
first_number (w ∷ words) = number_or_zero (number max_u32 w)

-- the number behind the first word of this name, or 0
abbrev pub number_behind : Word → List Word → ℕ
number_behind name [] = 0
number_behind name (w ∷ words) = if is w name then first_number words else number_behind name words

-- the words of the last line
abbrev pub last_words : List (List Word) → List Word
last_words [] = []
last_words (line ∷ []) = line
last_words (line ∷ next ∷ lines) = last_words (next ∷ lines)

-- the point of the last line, the numbers behind `held`, and how many lines there are
abbrev pub sums_of_lines : List (List Word) → Sums
sums_of_lines lines = record {
  points = number_behind (codes "point") (last_words lines);
  held = sum_by (number_behind (codes "held")) lines;
  lines = length lines;
}

abbrev pub sums_of_text : List ℕ → Sums
sums_of_text text = sums_of_lines (map words_in (lines_in text))

abbrev pub no_sums : Sums
no_sums = record { points = 0; held = 0; lines = 0 }

abbrev pub added : Sums → Sums → Sums
added sums more = record { points = sums.points + more.points; held = sums.held + more.held; lines = sums.lines + more.lines }
