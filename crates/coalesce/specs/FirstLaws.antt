-- What the notices that follow an answer to a SUBSCRIBE promise (RFC 8765, 6.2.2).
--     FirstFillsTheNew, FirstLeadsTheOthers      each question of the session has what it matches now
--     FirstAnewLeadsFromAny      all anew leads from any older set
--     FirstAddsNothingKnown      the records of the question alone leave sets that are up to date
--     FirstLeavesOtherNames      a question of another name keeps its set
--     FirstFitsOneMessage, FirstIsReadBack      the message
--     sent_of, WaitsAs      what the other questions were sent of a name, and what is known of it
use Rattle.std.specs.Prelude.{◌≡◌, ◌⊎◌, ◌≤◌, ℕ, true, false, not, [], length, flat_map, Option, Some, None, IsTrue, Ok}
use Rattle.std.specs.List.{Contains}
use Rattle.push_base.specs.Cases.{is_empty}
use Rattle.dnsname.specs.Names.{Labels, is_name, same_name}
use Rattle.rrset.specs.RecordSet.{RecordSet, matching, at_name}
use Rattle.rrset.specs.declared.record.Question.{Question}
use Rattle.subscr.specs.Asked.{Asked}
use Rattle.dsotlv.specs.Notices.{applied_all, notice_octets, notices_of}
use Rattle.dsotlv.specs.Answers.{push_message}
use Rattle.coalesce.specs.Net.{max_net_message}
use Rattle.coalesce.specs.Laws.{is_side, can_be_sent}
use Rattle.coalesce.specs.Sides.{IsOneSide}
use Rattle.coalesce.specs.Waiting.{WaitingName, is_named, differs, records_then}
use Rattle.coalesce.specs.FirstAnswers.{first_notices}

-- the records of a name before its first change where it waits, and else those that are there
abbrev pub sent_of : Labels → RecordSet → Option WaitingName → RecordSet
sent_of name rows None = at_name name rows
sent_of name rows (Some w) = records_then rows w

-- what waits is the name, and the records that it had are such as nets are made of
abbrev pub WaitsAs : Labels → RecordSet → Option WaitingName → Type 0
WaitsAs name rows None = Unit {0}
WaitsAs name rows (Some w) = IsTrue (is_named name w) × IsTrue (is_side w.name (records_then rows w))

-- the new question, or one of the others
abbrev pub IsAskedWith : Question → Asked → Question → Type 0
IsAskedWith question asked other = (other ≡ question) ⊎ ((id : ℕ) × Contains asked (id, other))

-- a new question, which holds nothing yet, has what it matches
abbrev pub FirstFillsTheNew : Type 0
FirstFillsTheNew = (question : Question) (asked : Asked) (rows : RecordSet) (waiting : Option WaitingName) → IsOneSide (at_name question.name rows)
    → applied_all (first_notices question asked rows waiting) question [] ≡ matching question (at_name question.name rows)

-- each other question goes from what it was sent to what it matches now
abbrev pub FirstLeadsTheOthers : Type 0
FirstLeadsTheOthers = (question : Question) (asked : Asked) (rows : RecordSet) (waiting : Option WaitingName) (id : ℕ) (other : Question)
    → IsOneSide (at_name question.name rows) → WaitsAs question.name rows waiting → Contains asked (id, other)
    → applied_all (first_notices question asked rows waiting) other (matching other (sent_of question.name rows waiting)) ≡ matching other (at_name question.name rows)

-- where the records have changed, each question goes from any older set to what it matches now
abbrev pub FirstAnewLeadsFromAny : Type 0
FirstAnewLeadsFromAny = (question : Question) (asked : Asked) (rows : RecordSet) (waiting : Option WaitingName) (old : RecordSet) (other : Question)
    → IsOneSide (at_name question.name rows) → IsTrue (is_side question.name old) → differs asked rows waiting ≡ true → IsAskedWith question asked other
    → applied_all (first_notices question asked rows waiting) other (matching other old) ≡ matching other (at_name question.name rows)

-- where they have not, a question that has what it matches now keeps it
abbrev pub FirstAddsNothingKnown : Type 0
FirstAddsNothingKnown = (question : Question) (asked : Asked) (rows : RecordSet) (waiting : Option WaitingName) (other : Question)
    → IsOneSide (at_name question.name rows) → differs asked rows waiting ≡ false
    → applied_all (first_notices question asked rows waiting) other (matching other (at_name question.name rows)) ≡ matching other (at_name question.name rows)

abbrev pub FirstLeavesOtherNames : Type 0
FirstLeavesOtherNames = (question : Question) (asked : Asked) (rows : RecordSet) (waiting : Option WaitingName) (other : Question) (set : RecordSet)
    → IsOneSide (at_name question.name rows) → IsTrue (not (same_name other.name question.name))
    → applied_all (first_notices question asked rows waiting) other (matching other set) ≡ matching other set

-- as many octets as one name's net takes at most
abbrev pub FirstFitsOneMessage : Type 0
FirstFitsOneMessage = (question : Question) (asked : Asked) (rows : RecordSet) (waiting : Option WaitingName)
    → IsTrue (is_name question.name) → IsOneSide (at_name question.name rows) → IsTrue (can_be_sent (at_name question.name rows))
    → length (push_message (first_notices question asked rows waiting)) ≤ max_net_message

-- what is written for them is read back
abbrev pub FirstIsReadBack : Type 0
FirstIsReadBack = (question : Question) (asked : Asked) (rows : RecordSet) (waiting : Option WaitingName)
    → IsTrue (is_name question.name) → IsOneSide (at_name question.name rows) → IsTrue (can_be_sent (at_name question.name rows))
    → IsTrue (not (is_empty (first_notices question asked rows waiting)))
    → notices_of (flat_map notice_octets (first_notices question asked rows waiting)) ≡ Ok (first_notices question asked rows waiting)
