-- What is written for a number.
--     sums_of_script records rounds      the sums over the text of one script
--     sums_of records number      the sums over the texts of the scripts of a number
--     summary records number      the line that tells them
use Rattle.std.specs.Prelude.{ℕ, List, [], ◌∷◌, fold, codes, decimal}
use Rattle.scripts.specs.declared.outcome.Outcome.TheVariants.{Done}
use Rattle.scripts.specs.Outcomes.{status_of}
use Rattle.scripts.specs.Reply.{Reply}
use Rattle.scripts.specs.Words.{line, spaced}
use Rattle.replay.specs.TextWords.{HeldRecords}
use Rattle.replay.specs.ScriptReplies.{reply_to_script}
use Rattle.big_scripts.specs.Scripts.{script_octets, rounds_of}
use Rattle.big_scripts.specs.Sums.{sums_of_text, no_sums, added}
use Rattle.big_scripts.specs.declared.sums.Sums.{Sums}

abbrev pub sums_of_script : HeldRecords → ℕ → Sums
sums_of_script records rounds = sums_of_text (reply_to_script records (script_octets rounds)).text

abbrev pub sums_of_scripts : HeldRecords → List ℕ → Sums
sums_of_scripts records scripts = fold (λ sums rounds. added sums (sums_of_script records rounds)) no_sums scripts

abbrev pub sums_of : HeldRecords → ℕ → Sums
sums_of records number = sums_of_scripts records (rounds_of number)

abbrev pub summary_of : ℕ → Sums → List ℕ
summary_of number sums = spaced (codes "big" ∷ decimal number ∷ codes "points" ∷ decimal sums.points ∷ codes "held" ∷ decimal sums.held ∷ codes "lines" ∷ decimal sums.lines ∷ [])

-- the line with the sums
abbrev pub reply_to_number : HeldRecords → ℕ → Reply
reply_to_number records number = record { status = status_of Done; text = line (summary_of number (sums_of records number)) }
