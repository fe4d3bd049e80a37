-- What is so of the lines of whole scripts, whatever text they are read from.
--     StandsAfterEachLine      after each line the world stands, with the points that `held` lines have shown
--     ScriptsNeverGoBack      no `held` line shows an earlier point than one before it
--     FitsAfterEachLine script, NoMessageEndsIn script      of one script: what is under way fits; no message ends or closes anything
--     LinesKeepPromises, LinesTellOneText, LinesHold, NoMessageEndsLines      what `replay` says of a text holds of its lines
--     OnlyLoneOnesAreFed      each client that a line of a text feeds is a lone one
use Rattle.std.specs.Prelude.{◌≡◌, ℕ, true, false, List, ◌∷◌, ◌++◌, Some, Ok}
use Rattle.rrset.specs.declared.record.Question.{Question}
use Rattle.scripts.specs.Lines.{Word, ScriptLine}
use Rattle.scripts.specs.Scripts.{script_of}
use Rattle.replay.specs.World.{World, Seat, start_world, seat_of}
use Rattle.replay.specs.Text.{world_after}
use Rattle.replay.specs.ScriptTexts.{text_by}
use Rattle.replay.specs.Between.{lines_of, world_then}
use Rattle.replay.specs.FedLines.{Fed, fed_between}
use Rattle.replay.specs.HeldPoints.{NeverEarlier, held_points_from}
use Rattle.replay.specs.Promises.{KeepsPromises, HoldsAfter, EndsByItself}
use Rattle.replay.specs.TextWords.{by_history, by_notices}
use Rattle.script_laws.specs.Lines.{AreLines}
use Rattle.script_laws.specs.Joined.{ShownToEach, WorldStands}

abbrev pub shown_by : List ScriptLine → World → ShownToEach
shown_by lines world = λ w question. held_points_from w question lines world

abbrev pub StandsAfter : List ScriptLine → World → Type 0
StandsAfter lines world = WorldStands (shown_by lines world) (world_after lines world)

abbrev pub StandsAfterEachLine : Type 0
StandsAfterEachLine = (script before after : List ScriptLine) → AreLines script → script ≡ before ++ after → StandsAfter before (start_world script)

abbrev pub ScriptsNeverGoBack : Type 0
ScriptsNeverGoBack = (script : List ScriptLine) (w : Word) (question : Question) → AreLines script → NeverEarlier script w question

-- no `held` line goes back, and behind a settle each shows the newest records
abbrev pub LinesKeepPromises : Type 0
LinesKeepPromises = (script : List ScriptLine) → AreLines script → KeepsPromises script

-- what is held is what the notices taken lead to
abbrev pub LinesTellOneText : Type 0
LinesTellOneText = (script : List ScriptLine) → AreLines script → text_by by_history script ≡ text_by by_notices script

-- after each line what is under way fits
abbrev pub FitsAfterEachLine : List ScriptLine → Type 0
FitsAfterEachLine script = (before after : List ScriptLine) → script ≡ before ++ after → HoldsAfter before (start_world script)

abbrev pub LinesHold : Type 0
LinesHold = (script : List ScriptLine) → AreLines script → FitsAfterEachLine script

-- no line tells an end or a close of a client of the hub but those that come by themselves
abbrev pub NoMessageEndsIn : List ScriptLine → Type 0
NoMessageEndsIn script = (before after : List ScriptLine) (line : ScriptLine) (w : Word) (seat : Seat) → script ≡ before ++ line ∷ after
    → let world = world_after before (start_world script) in
    seat_of world w ≡ Some seat → seat.is_lone ≡ false → EndsByItself world line seat

abbrev pub NoMessageEndsLines : Type 0
NoMessageEndsLines = (script : List ScriptLine) → AreLines script → NoMessageEndsIn script

-- in a script each client that a line `feed` feeds is a lone one
abbrev pub OnlyLoneOnesAreFed : Type 0
OnlyLoneOnesAreFed = (script : List ℕ) (fed : Fed) → script_of script ≡ Ok (lines_of (fed_between fed)) → seat_of (world_then (fed_between fed)) fed.word ≡ Some fed.seat → fed.seat.is_lone ≡ true
