-- What a client holds (RFC 8765, 6.3): questions, each with a record set, in the order in which they began.
--     AreHeld      no question twice
--     AreAsked      the keys of each set are ones for which its question asks
--     has, set_of      whether a question is there, and its set
--     begun, ended      a question whose set begins empty; one that goes
--     applied_to      each set after the notices of a message
use Rattle.std.specs.Prelude.{◌≡◌, Bool, true, not, List, [], ◌∷◌, map, Option, option_map, find, filter, if◌then◌else◌}
use Rattle.std.specs.List.{list_any, AllByRecursion, IsDistinct}
use Rattle.rrset.specs.Records.{same_question, matches}
use Rattle.rrset.specs.RecordSet.{RecordSet}
use Rattle.rrset.specs.Tables.{TableState}
use Rattle.rrset.specs.declared.record.Shown.{Shown}
use Rattle.rrset.specs.declared.record.Question.{Question}
use Rattle.dsotlv.specs.declared.message.Notice.{Notice}
use Rattle.dsotlv.specs.Notices.{applied_all}

-- questions with their sets
abbrev pub Held : Type 0
Held = List (Question × RecordSet)

-- what tables hold, each with its question
abbrev pub held_of : List (Question × TableState Shown) → Held
held_of entries = map (λ e. (e.0, e.1.rows)) entries

abbrev pub is_of : {S : Type 0} → Question → Question × S → Bool
is_of question e = same_question e.0 question

-- no question twice
abbrev pub AreHeld : {S : Type 0} → List (Question × S) → Type 0
AreHeld held = IsDistinct (λ e f. is_of f.0 e) held

-- the question asks for each key of the set
abbrev pub AsksFor : Question → RecordSet → Type 0
AsksFor question set = AllByRecursion (λ e. matches question e.0 ≡ true) set

abbrev pub AreAsked : Held → Type 0
AreAsked held = AllByRecursion (λ e. AsksFor e.0 e.1) held

abbrev pub has : Question → Held → Bool
has question held = list_any (is_of question) held

abbrev pub set_of : Question → Held → Option RecordSet
set_of question held = option_map (λ e. e.1) (find (is_of question) held)

-- empty in its place where the question is there, and else behind the others
abbrev pub begun : Question → Held → Held
begun question [] = (question, []) ∷ []
begun question (e ∷ held) = if is_of question e then (e.0, []) ∷ held else e ∷ begun question held

-- the others stay in their order
abbrev pub ended : Question → Held → Held
ended question held = filter (λ e. not (is_of question e)) held

-- by all notices of one message, in order (RFC 8765, 6.3.1)
abbrev pub applied_to : List Notice → Held → Held
applied_to notices held = map (λ e. (e.0, applied_all notices e.0 e.1)) held
