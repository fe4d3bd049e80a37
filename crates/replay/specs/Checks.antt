-- What is told of a script that is read and not run.
--     checked octets      the status and the text for the octets that were read
use Rattle.std.specs.Prelude.{ℕ, List, ◌++◌, length, Ok, Err, codes, decimal}
use Rattle.scripts.specs.declared.outcome.Outcome.TheVariants as outcomes
use Rattle.scripts.specs.Outcomes.{status_of}
use Rattle.scripts.specs.Reply.{Reply}
use Rattle.scripts.specs.Words.{line}
use Rattle.scripts.specs.Scripts.{lines_in, script_of}
use Rattle.replay.specs.ScriptTexts.{outside_text}

-- what is written of a script with so many lines
abbrev pub good_text : ℕ → List ℕ
good_text lines = line (codes "good " ++ decimal lines)

-- status 0 and how many lines there are, or status 2 and the number of the first line outside
unfoldable pub checked : List ℕ → Reply
checked octets = elim (script_of octets) [
  | Ok script ↦ record { status = status_of outcomes.Done; text = good_text (length (lines_in octets)) }
  | Err number ↦ record { status = status_of outcomes.Outside; text = outside_text number }
]
