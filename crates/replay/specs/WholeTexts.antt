-- The text of a script that may have a second hub.
--     whole_printed records lines worlds askings      what lines print, of which the worlds and what links are asked is so before them
--     whole_text_by records script      the text of a script
--     whole_text_with records text      what is written for the octets of a script
--     whole_reply records octets, whole_checked octets      what is answered where it is run, and where it is only read
use Rattle.std.specs.Prelude.{ℕ, List, [], ◌∷◌, ◌++◌, length, Ok, Err}
use Rattle.hubasking.specs.LinkAskings.{Askings}
use Rattle.scripts.specs.Outcomes.{status_of}
use Rattle.scripts.specs.Reply.{Reply}
use Rattle.scripts.specs.Scripts.{lines_in}
use Rattle.scripts.specs.WholeLines.{WholeLine}
use Rattle.scripts.specs.WholeScripts.{whole_script_of, near_lines}
use Rattle.scripts.specs.Words.{ended_lines}
use Rattle.scripts.specs.declared.outcome.Outcome.TheVariants as outcomes
use Rattle.replay.specs.Askings.{asked_lines, line_asks, start_askings}
use Rattle.replay.specs.Checks.{good_text}
use Rattle.replay.specs.ScriptTexts.{outside_text}
use Rattle.replay.specs.TextWords.{HeldRecords}
use Rattle.replay.specs.TwoWorlds.{Worlds, start_worlds, near_line_at, lines_do}

-- what the lines print, in order; the second hub has no links
abbrev pub whole_printed : HeldRecords → List WholeLine → Worlds → Askings → List (List ℕ)
whole_printed records [] worlds askings = []
whole_printed records (line ∷ lines) worlds askings =
    (let both = lines_do records line worlds in
    let near = near_line_at worlds line in
    both.1 ++ (asked_lines near worlds.near askings ++ whole_printed records lines both.0 (line_asks near worlds.near askings)))

abbrev pub whole_text_by : HeldRecords → List WholeLine → List ℕ
whole_text_by records script = ended_lines (whole_printed records script (start_worlds script) (start_askings (near_lines script)))

-- the status and the whole text for the octets of a script
abbrev pub whole_text_with : HeldRecords → List ℕ → ℕ × List ℕ
whole_text_with records text = elim (whole_script_of text) [ Ok script ↦ (status_of outcomes.Done, whole_text_by records script) | Err n ↦ (status_of outcomes.Outside, outside_text n) ]

-- status 0 and the text of the script, or status 2 and the number of the first line outside
unfoldable pub whole_reply : HeldRecords → List ℕ → Reply
whole_reply records octets = record { status = (whole_text_with records octets).0; text = (whole_text_with records octets).1 }

-- status 0 and how many lines there are, or status 2 and the number of the first line outside
unfoldable pub whole_checked : List ℕ → Reply
whole_checked octets = elim (whole_script_of octets) [
  | Ok script ↦ record { status = status_of outcomes.Done; text = good_text (length (lines_in octets)) }
  | Err number ↦ record { status = status_of outcomes.Outside; text = outside_text number }
]
