-- The promise to who subscribes: a SUBSCRIBE that a peer sends as its first octets, for a name that has a home and a class that is served, is answered NOERROR, and the records that it asks for as they are then follow (RFC 8765, 6.2.2 and 6.3).
--     Asked      a peer's word, what it sends, its question, and the lines before and behind it
--     asked_between asked      that line between the others
--     connected_then asked, session_then asked      the hub with the peer's new session, and this session
--     AsksFirst script asked      these are the lines of the script, and the question is served
--     served_reply records asked      the status and the text
use Rattle.std.specs.Prelude.{◌≡◌, ℕ, List, [], ◌∷◌, Some, None, Ok, IsSome}
use Rattle.rrset.specs.Header.{id_of}
use Rattle.rrset.specs.Rcodes.{noerror}
use Rattle.rrset.specs.declared.record.Question.{Question}
use Rattle.dsotlv.specs.Messages.{first_message}
use Rattle.pushserver.specs.PlainHubs.{Session, Hub, first_answer}
use Rattle.pushserver.specs.Hubs.{now, keeps_now, connect}
use Rattle.dsotlv.specs.Answers.{answer_to}
use Rattle.pushsession.specs.Sessions.{new_session}
use Rattle.pushsession.specs.Subscribing.{first_answer_octets}
use Rattle.pushserver.specs.Laws.{IsAcceptable}
use Rattle.scripts.specs.Lines.{Word, ScriptLine, send}
use Rattle.scripts.specs.Scripts.{script_of}
use Rattle.replay.specs.World.{session_number}
use Rattle.replay.specs.TextWords.{bytes_line, HeldRecords}
use Rattle.scripts.specs.Reply.{Reply}
use Rattle.replay.specs.Between.{Between, lines_of, world_then, reply_between}

pub record Asked : Type 0 where
  pub before : List ScriptLine
  pub word : Word
  pub octets : List ℕ
  pub message : List ℕ
  pub question : Question
  pub behind : List ScriptLine

-- its line, between the others
abbrev pub asked_between : Asked → Between
asked_between asked = record { before = asked.before; lines = send asked.word asked.octets ∷ []; behind = asked.behind }

-- the hub with the peer's new session, and this session
abbrev pub connected_then : Asked → Hub
connected_then asked = (connect (world_then (asked_between asked)).hub).1

abbrev pub session_then : Asked → Session
session_then asked = (let hub = (world_then (asked_between asked)).hub in new_session (keeps_now hub) (now hub))

-- the peer has no session yet and gets one; its octets are one whole frame, and a new session accepts the message
pub record AsksFirst (script : List ℕ) (asked : Asked) : Type 0 where
  pub read : script_of script ≡ Ok (lines_of (asked_between asked))
  pub new_peer : session_number (world_then (asked_between asked)) asked.word ≡ None
  pub seat : IsSome (connect (world_then (asked_between asked)).hub).0
  pub found : first_message asked.octets ≡ Some (asked.message, [])
  pub acceptable : IsAcceptable (connected_then asked) (session_then asked) asked.message asked.question

-- NOERROR, and the records that the question matches then, if there are any
abbrev pub served_octets : Asked → List ℕ
served_octets asked = first_answer_octets (answer_to (id_of asked.message) noerror) (first_answer (connected_then asked) (session_then asked) asked.question)

abbrev pub served_line : Asked → List ℕ
served_line asked = bytes_line asked.word (served_octets asked)

abbrev pub served_reply : HeldRecords → Asked → Reply
served_reply records asked = reply_between records (asked_between asked) (served_line asked ∷ [])
