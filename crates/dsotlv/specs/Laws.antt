-- What readers and writers of DSO messages promise of all texts.
--     ReadsExactly..      what is read is what is spelled, and what is spelled is read
--     NoFrameBeginsAnother, NoTlvBeginsAnother      what was written is found again, whatever follows it
--     with_piece, CutsAnywhere, ReadsAllPieces      a stream gives the same messages in whatever pieces it comes
--     TakesOneByOne, StopsAtNoMessage, WholeStaysFirst, LongIsWhole      what the first message of a stream is to all of them
--     FramesAreWholeAgain      frames give their messages
--     WritesWhatIsSpelled, WritesDsoThatIsSpelled      what is written is in the grammar
use Rattle.std.specs.Prelude.{◌≡◌, ℕ, ◌<◌, ◌≤◌, ◌^◌, List, [], ◌∷◌, ◌++◌, length, flat_map, fold, All, Some, None, IsSome, Ok}
use Rattle.std.specs.List.{concat}
use Rattle.rrset.specs.declared.record.Question.{Question}
use Rattle.rrset.specs.declared.record.Rr.{Rr}
use Rattle.dsotlv.specs.declared.message.Tlv.{Tlv}
use Rattle.dsotlv.specs.declared.message.DsoMessage.{DsoMessage}
use Rattle.dsotlv.specs.declared.message.Notice.{Notice}
use Rattle.dsotlv.specs.Messages.{dso_of, dso_octets, frame, max_frame, first_message, messages_in, tlv_octets}
use Rattle.dsotlv.specs.Notices.{question_of, reconfirm_of, notices_of, notice_octets}
use Rattle.dsotlv.specs.Spelling.{SpellsDso, SplitsIntoFrames, SpellsQuestionData, SpellsReconfirm, SpellsNotice, SpellsPush}

-- a list of numbers below 256
abbrev pub AreOctets : List ℕ → Type 0
AreOctets text = All (λ o. o < 256) text

abbrev pub ReadsExactlyDso : Type 0
ReadsExactlyDso = (text : List ℕ) (message : DsoMessage) → AreOctets text → (dso_of text ≡ Ok message → SpellsDso text message) × (SpellsDso text message → dso_of text ≡ Ok message)

abbrev pub ReadsExactlyFrames : Type 0
ReadsExactlyFrames = (stream : List ℕ) (messages : List (List ℕ)) (rest : List ℕ) → AreOctets stream
    → (messages_in stream ≡ (messages, rest) → SplitsIntoFrames stream messages rest) × (SplitsIntoFrames stream messages rest → messages_in stream ≡ (messages, rest))

abbrev pub ReadsExactlyQuestion : Type 0
ReadsExactlyQuestion = (text : List ℕ) (question : Question) → AreOctets text
    → (question_of text ≡ Some question → SpellsQuestionData text question) × (SpellsQuestionData text question → question_of text ≡ Some question)

abbrev pub ReadsExactlyReconfirm : Type 0
ReadsExactlyReconfirm = (text : List ℕ) (rr : Rr) → AreOctets text → (reconfirm_of text ≡ Some rr → SpellsReconfirm text rr) × (SpellsReconfirm text rr → reconfirm_of text ≡ Some rr)

abbrev pub ReadsExactlyPush : Type 0
ReadsExactlyPush = (text : List ℕ) (notices : List Notice) → AreOctets text → (notices_of text ≡ Ok notices → SpellsPush text notices) × (SpellsPush text notices → notices_of text ≡ Ok notices)

-- where some text spells a notice, the one that is written does
abbrev pub WritesWhatIsSpelled : Type 0
WritesWhatIsSpelled = (text : List ℕ) (notice : Notice) → SpellsNotice text notice → SpellsNotice (notice_octets notice) notice

-- what a reader has after a further piece: messages, and octets that are left
abbrev pub with_piece : List (List ℕ) × List ℕ → List ℕ → List (List ℕ) × List ℕ
with_piece had piece = (had.0 ++ (messages_in (had.1 ++ piece)).0, (messages_in (had.1 ++ piece)).1)

abbrev pub CutsAnywhere : Type 0
CutsAnywhere = (front behind : List ℕ) → messages_in (front ++ behind) ≡ with_piece (messages_in front) behind

abbrev pub ReadsAllPieces : Type 0
ReadsAllPieces = (pieces : List (List ℕ)) → fold with_piece ([], []) pieces ≡ messages_in (concat pieces)

abbrev pub TakesOneByOne : Type 0
TakesOneByOne = (stream message rest : List ℕ) → first_message stream ≡ Some (message, rest) → messages_in stream ≡ (message ∷ (messages_in rest).0, (messages_in rest).1)

abbrev pub StopsAtNoMessage : Type 0
StopsAtNoMessage = (stream : List ℕ) → first_message stream ≡ None → messages_in stream ≡ ([], stream)

abbrev pub WholeStaysFirst : Type 0
WholeStaysFirst = (stream behind message rest : List ℕ) → first_message stream ≡ Some (message, rest) → first_message (stream ++ behind) ≡ Some (message, rest ++ behind)

-- the octets of a longest frame, or more, have a whole message
abbrev pub LongIsWhole : Type 0
LongIsWhole = (stream : List ℕ) → AreOctets stream → max_frame ≤ length stream → IsSome (first_message stream)

abbrev pub FramesAreWholeAgain : Type 0
FramesAreWholeAgain = (messages : List (List ℕ)) → All (λ message. length message < 2 ^ 16) messages → messages_in (flat_map frame messages) ≡ (messages, [])

abbrev pub NoFrameBeginsAnother : Type 0
NoFrameBeginsAnother = (first second behind after : List ℕ) → length first < 2 ^ 16 → length second < 2 ^ 16 → frame first ++ behind ≡ frame second ++ after → (first ≡ second) × (behind ≡ after)

abbrev pub HasSize : Tlv → Type 0
HasSize tlv = (tlv.kind < 2 ^ 16) × (length tlv.octets < 2 ^ 16)

abbrev pub NoTlvBeginsAnother : Type 0
NoTlvBeginsAnother = (first second : Tlv) (behind after : List ℕ) → HasSize first → HasSize second → tlv_octets first ++ behind ≡ tlv_octets second ++ after → (first ≡ second) × (behind ≡ after)

-- a message whose ID, RCODE and TLVs fit their fields
pub record FitsDso (message : DsoMessage) : Type 0 where
  pub id : message.id < 2 ^ 16
  pub rcode : message.rcode < 16
  pub tlvs : All HasSize message.tlvs

abbrev pub WritesDsoThatIsSpelled : Type 0
WritesDsoThatIsSpelled = (message : DsoMessage) → FitsDso message → SpellsDso (dso_octets message) message
