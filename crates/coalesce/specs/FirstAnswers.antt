-- What follows the answer to a SUBSCRIBE (RFC 8765, 6.2.2).
--     told_first changed question others there      the notices that follow it, whatever tells whether the name has changed and what the others ask for
--     first_notices question asked rows waiting      the same where old values tell it of names that wait
--     wanted_with question others set      the records that the question or others ask for
use Rattle.std.specs.Prelude.{Bool, List, Option, if◌then◌else◌}
use Rattle.dnsname.specs.Names.{lower}
use Rattle.rrset.specs.RecordSet.{RecordSet, only, matching, at_name}
use Rattle.rrset.specs.declared.record.Key.{Key}
use Rattle.rrset.specs.declared.record.Question.{Question}
use Rattle.subscr.specs.Asked.{Asked, wants, asks_with}
use Rattle.dsotlv.specs.declared.message.Notice.{Notice}
use Rattle.coalesce.specs.Net.{additions, all_anew}
use Rattle.coalesce.specs.Waiting.{WaitingName, differs}

-- the records that the question or one of the others asks for
abbrev pub wanted_with : Question → (Key → Bool) → RecordSet → RecordSet
wanted_with question others set = only (asks_with question others) set

-- Of the records that are there at the name, those of the question; or, where the name has changed since it was sent to the
-- other questions, all that any of them asks for, anew. The two forms are this project's own (RFC 8765, 6.2.2 and 6.3).
abbrev pub told_first : Bool → Question → (Key → Bool) → RecordSet → List Notice
told_first changed question others there = if changed then all_anew (lower question.name) (wanted_with question others there) else additions (matching question there)

abbrev pub first_notices : Question → Asked → RecordSet → Option WaitingName → List Notice
first_notices question asked rows waiting = told_first (differs asked rows waiting) question (λ key. wants key asked) (at_name question.name rows)
