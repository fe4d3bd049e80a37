-- What is shown of a question, by what is kept of a client.
--     record_lines set      the lines of records
--     show_text w question written told, showing_text showing told      the lines of a `show`, by what is told
--     showing_of w question written      what is to be shown
--     ShowsSeat kept showing text, ShowsSet kept showing rows text      the text of what a client knows, and of a set that it holds
--     IsFilling kept question filling      whether the first answer to a question hasn't arrived
use Rattle.std.specs.Prelude.{◌≡◌, ℕ, Bool, List, map, Some}
use Rattle.rrset.specs.RecordSet.{RecordSet}
use Rattle.rrset.specs.declared.record.Question.{Question}
use Rattle.pushserver.specs.PlainHubs.{Hub}
use Rattle.pushclient.specs.Clients.{held, id_of}
use Rattle.pushclient.specs.Kept.{IsHeld}
use Rattle.scripts.specs.Lines.{Word}
use Rattle.replay.specs.World.{Seat}
use Rattle.replay.specs.TextWords.{record_line, ShowTold, shown_lines, by_notices, is_filling, told_of}
use Rattle.scripts.specs.Words.{ended_lines}
use Rattle.replay.specs.KeptWorlds.{KeptSeat, StandsForSeat}

-- a line for each record
abbrev pub record_lines : RecordSet → List ℕ
record_lines set = ended_lines (map record_line set)

-- the state of the question, and the records that follow
abbrev pub show_text : Word → Question → List ℕ → ShowTold → List ℕ
show_text w question written told = ended_lines (shown_lines w question written told)

-- what is to be shown: the client's word, the question, and its name as it is written
pub record Showing : Type 0 where
  pub word : Word
  pub question : Question
  pub written : List ℕ

abbrev pub showing_of : Word → Question → List ℕ → Showing
showing_of w question written = record { word = w; question = question; written = written }

abbrev pub showing_text : Showing → ShowTold → List ℕ
showing_text showing told = show_text showing.word showing.question showing.written told

-- this is the text of what the client of each seat that is stood for knows
unfoldable pub ShowsSeat : KeptSeat → Showing → List ℕ → Type 0
ShowsSeat kept showing text = (hub : Hub) (seat : Seat) → StandsForSeat kept seat → text ≡ showing_text showing (told_of by_notices (held seat.client showing.question) hub seat showing.question)

-- so it is where the client holds these rows
unfoldable pub ShowsSet : KeptSeat → Showing → RecordSet → List ℕ → Type 0
ShowsSet kept showing rows text = (hub : Hub) (seat : Seat) → StandsForSeat kept seat → IsHeld rows (held seat.client showing.question)
    → text ≡ showing_text showing (told_of by_notices (held seat.client showing.question) hub seat showing.question)

-- whether the first answer to a question that is asked hasn't arrived whole
unfoldable pub IsFilling : KeptSeat → Question → Bool → Type 0
IsFilling kept question filling = (seat : Seat) (id : ℕ) → StandsForSeat kept seat → id_of seat.client question ≡ Some id → filling ≡ is_filling seat id
