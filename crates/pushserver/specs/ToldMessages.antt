-- What a session was told is what the history says: of every message made, and of all of them.
--     notices_since id made      the notices that were made after the answer with this ID
--     TellsHistory hub session      each message is right by its note, and all of them lead to what counts as sent
use Rattle.std.specs.Prelude.{◌≡◌, ℕ, ◌≤◌, Bool, List, [], ◌∷◌, ◌++◌, map, fold, Ok, Err, ◌==◌, if◌then◌else◌}
use Rattle.std.specs.List.{AllByRecursion}
use Rattle.dnsname.specs.Names.{Labels}
use Rattle.std.specs.Str.{bytes_eq}
use Rattle.rrset.specs.Rcodes.{noerror}
use Rattle.rrset.specs.Header.{flags_of, is_response}
use Rattle.rrset.specs.RecordSet.{RecordSet, matching}
use Rattle.rrset.specs.declared.record.Question.{Question}
use Rattle.dsotlv.specs.Messages.{tlvs_of}
use Rattle.dsotlv.specs.Answers.{answer_to}
use Rattle.dsotlv.specs.Notices.{notices_of, applied_all}
use Rattle.dsotlv.specs.declared.message.Tlv.{Tlv}
use Rattle.dsotlv.specs.declared.message.Notice.{Notice}
use Rattle.dsotlv.specs.TlvKinds.{push_tlv}
use Rattle.history.specs.States.{records_at}
use Rattle.pushserver.specs.PlainHubs.{Hub, Session, Subscription, Made, Note, HaveOwnIds, AskOnce, told, note_of, size_of_made, written, sent}
use Rattle.pushserver.specs.Hubs.{newest}

-- the notices of a PUSH; of any other message none
abbrev pub notices_in_tlvs : List Tlv → List Notice
notices_in_tlvs [] = []
notices_in_tlvs (tlv ∷ tlvs) = if tlv.kind == push_tlv then (elim (notices_of tlv.octets) [ Err fault ↦ [] | Ok notices ↦ notices ]) else []

abbrev pub notices_in : List ℕ → List Notice
notices_in message = if is_response (flags_of message) then [] else (elim (tlvs_of message) [ Err fault ↦ [] | Ok tlvs ↦ notices_in_tlvs tlvs ])

-- the message is the NOERROR answer to the SUBSCRIBE with this ID: a header alone (RFC 8765, 6.2.2)
abbrev pub is_answer_to : ℕ → Made → Bool
is_answer_to id m = bytes_eq m.message (answer_to id noerror)

-- one message more: the answer begins the notices anew
abbrev pub and_notices : ℕ → List Notice → Made → List Notice
and_notices id notices m = if is_answer_to id m then [] else notices ++ notices_in m.message

-- the notices after the last such answer
abbrev pub notices_since : ℕ → List Made → List Notice
notices_since id made = fold (and_notices id) [] made

-- the set of a question after these messages
abbrev pub set_after : List Made → Subscription → RecordSet
set_after made s = applied_all (notices_since s.id made) s.question []

-- the records of a question at the point that a note gives for its name
abbrev pub records_noted : Hub → Note → Question → RecordSet
records_noted hub note question = matching question (records_at hub.start hub.history (told note question.name))

-- The last of some messages is right: each subscription that was active then, and whose first answer is among them, has its records at the note's point.
abbrev pub IsRightAfter : Hub → List Made → Made → Type 0
IsRightAfter hub before m = AllByRecursion (λ s. s.filled ≤ size_of_made (before ++ m ∷ []) → set_after (before ++ m ∷ []) s ≡ records_noted hub m.note s.question) m.subscribed

-- each message is right after those before it
abbrev pub EachIsRight : Hub → List Made → List Made → Type 0
EachIsRight hub before [] = Unit {0}
EachIsRight hub before (m ∷ ms) = IsRightAfter hub before m × EachIsRight hub (before ++ m ∷ []) ms

-- no note gives a name an earlier point than one before it
abbrev pub IsNoEarlier : Note → Note → Type 0
IsNoEarlier first second = (name : Labels) → told first name ≤ told second name

abbrev pub NotesRise : List Note → Type 0
NotesRise [] = Unit {0}
NotesRise (n ∷ []) = Unit {0}
NotesRise (n ∷ m ∷ notes) = IsNoEarlier n m × NotesRise (m ∷ notes)

pub record TellsHistory (hub : Hub) (session : Session) : Type 0 where
  pub each : EachIsRight hub [] session.made
  -- all messages together lead to what counts as sent
  pub all : AllByRecursion (λ s. set_after session.made s ≡ matching s.question (sent hub session s.question.name)) session.subscriptions
  pub notes : NotesRise (map (λ m. m.note) session.made ++ note_of (newest hub) session ∷ [])
  pub ids : HaveOwnIds session.subscriptions
  pub questions : AskOnce session.subscriptions
  pub whole : AllByRecursion (λ s. s.filled ≤ written session) session.subscriptions
