-- What holds of sessions.
--     NotesGoBack      an entry that wasn't made leaves no trace
--     PiecesAreOne      octets come in by pieces as they would by one
--     EachQuestionHasItsEnd      of each ID the end of its first answer is known
use Rattle.std.specs.Prelude.{◌≡◌, ℕ, List, ◌++◌, is_some}
use Rattle.std.specs.List.{AllByRecursion}
use Rattle.rrset.specs.declared.record.Changed.{Changed}
use Rattle.subscr.specs.Asked.{Asked, has}
use Rattle.coalesce.specs.Waiting.{IsOlder}
use Rattle.pushsession.specs.Sessions.{noted, with_piece}
use Rattle.pushsession.specs.Kept.{KeptSession, Filled, HasEnds, filled_of, keeping, taken_back}

-- what is noted at a point goes when it is taken back, where all others wait since before it
abbrev pub NotesGoBack : Type 0
NotesGoBack = (changed : List Changed) (point : ℕ) (session : KeptSession) → AllByRecursion (IsOlder point) session.queue
    → taken_back point (noted keeping changed point session) ≡ session

-- two pieces are taken as one (RFC 7766, 8)
abbrev pub PiecesAreOne : Type 0
PiecesAreOne = (first second : List ℕ) (session : KeptSession) → with_piece second (with_piece first session) ≡ with_piece (first ++ second) session

abbrev pub EachQuestionHasItsEnd : Type 0
EachQuestionHasItsEnd = (id : ℕ) (asked : Asked) (filled : Filled) → HasEnds asked filled → is_some (filled_of id filled) ≡ has id asked
