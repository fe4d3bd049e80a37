-- The text of a script.
--     printed_by records lines world askings      what lines print, of which the world and what links are asked is so before them
--     text_by records script      the text of a script
--     text_with records text, text_of text      what is written for the octets of a script
use Rattle.std.specs.Prelude.{ℕ, List, [], ◌∷◌, ◌++◌, Ok, Err, codes, decimal}
use Rattle.hubasking.specs.LinkAskings.{Askings}
use Rattle.scripts.specs.Lines.{ScriptLine}
use Rattle.scripts.specs.Outcomes.{status_of}
use Rattle.scripts.specs.Scripts.{script_of}
use Rattle.scripts.specs.Words.{line, ended_lines}
use Rattle.scripts.specs.declared.outcome.Outcome.TheVariants as outcomes
use Rattle.replay.specs.World.{World, start_world}
use Rattle.replay.specs.TextWords.{HeldRecords, by_history, by_notices}
use Rattle.replay.specs.Text.{line_does}
use Rattle.replay.specs.Askings.{asked_lines, line_asks, start_askings}

-- what the lines print, in order
abbrev pub printed_by : HeldRecords → List ScriptLine → World → Askings → List (List ℕ)
printed_by records [] world askings = []
printed_by records (line ∷ lines) world askings = (let one = line_does records line world in one.1 ++ (asked_lines line world askings ++ printed_by records lines one.0 (line_asks line world askings)))

abbrev pub text_by : HeldRecords → List ScriptLine → List ℕ
text_by records script = ended_lines (printed_by records script (start_world script) (start_askings script))

-- the text, where what is held is that of the history
abbrev pub text_of_script : List ScriptLine → List ℕ
text_of_script script = text_by by_history script

-- the same text, where what is held is worked out from the notices alone
abbrev pub text_by_notices : List ScriptLine → List ℕ
text_by_notices script = text_by by_notices script

-- what is written where that line is the first outside
abbrev pub outside_text : ℕ → List ℕ
outside_text number = line (codes "line " ++ decimal number)

-- the status and the whole text for the octets of a script
abbrev pub text_with : HeldRecords → List ℕ → ℕ × List ℕ
text_with records text = elim (script_of text) [ Ok script ↦ (status_of outcomes.Done, text_by records script) | Err n ↦ (status_of outcomes.Outside, outside_text n) ]

abbrev pub text_of : List ℕ → ℕ × List ℕ
text_of text = text_with by_history text
