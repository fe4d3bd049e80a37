-- What a line `feed` prints: the client reacts to each whole message in its input and these octets, one after the other, and all that it has to send then is told (RFC 7766, 8; RFC 8490, 5.4).
--     Fed      a client's word, the octets, the lines before and behind, and the client where it stands
--     fed_between fed      the line between the others
--     FeedsLone script fed      these are the lines of the script, and the client is a lone one that is connected
--     messages_fed fed, reacted_to fed      the whole messages in its input and the octets, and what is left; its reactions to these messages
--     fed_reply records fed, left_fed fed closing      the status and the text; and how the client is left
--     FeedsAsMessages      the law
use Rattle.std.specs.Prelude.{◌≡◌, ℕ, true, List, [], ◌∷◌, ◌++◌, Option, Some, None, Ok}
use Rattle.dsotlv.specs.Messages.{messages_in}
use Rattle.dsosession.specs.declared.session.CloseReason.{CloseReason}
use Rattle.pushclient.specs.Clients.{is_connected, output_of, closed_as}
use Rattle.pushclient.specs.Pieces.{OnMessages, on_messages, with_input, input_of}
use Rattle.scripts.specs.Lines.{Word, ScriptLine, feed}
use Rattle.scripts.specs.Scripts.{script_of}
use Rattle.replay.specs.World.{Seat, seat_of, cut_seat}
use Rattle.pushclient.specs.HandedOut.{without_output}
use Rattle.replay.specs.TextWords.{bytes_line, HeldRecords}
use Rattle.replay.specs.Text.{close_lines}
use Rattle.scripts.specs.Reply.{Reply}
use Rattle.replay.specs.ScriptReplies.{reply_to_script}
use Rattle.replay.specs.Between.{Between, lines_of, world_then, world_behind, reply_between}

pub record Fed : Type 0 where
  pub before : List ScriptLine
  pub word : Word
  pub octets : List ℕ
  pub behind : List ScriptLine
  pub seat : Seat

-- its line, between the others
abbrev pub fed_between : Fed → Between
fed_between fed = record { before = fed.before; lines = feed fed.word fed.octets ∷ []; behind = fed.behind }

-- the client stands there, is a lone one, and is connected
pub record FeedsLone (script : List ℕ) (fed : Fed) : Type 0 where
  pub read : script_of script ≡ Ok (lines_of (fed_between fed))
  pub there : seat_of (world_then (fed_between fed)) fed.word ≡ Some fed.seat
  pub lone : fed.seat.is_lone ≡ true
  pub connects : is_connected fed.seat.client ≡ true

-- the whole messages in its input and the octets, and what is left behind them
abbrev pub messages_fed : Fed → List (List ℕ) × List ℕ
messages_fed fed = messages_in (input_of fed.seat.client ++ fed.octets)

-- its reactions to these messages, one after the other, until it has closed
abbrev pub reacted_to : Fed → OnMessages
reacted_to fed = on_messages (messages_fed fed).0 (with_input [] fed.seat.client)

-- all that it has to send then, and that it has closed
abbrev pub fed_lines : Fed → List (List ℕ)
fed_lines fed = bytes_line fed.word (output_of (reacted_to fed).client) ∷ close_lines fed.word (closed_as (reacted_to fed).client)

abbrev pub fed_reply : HeldRecords → Fed → Reply
fed_reply records fed = reply_between records (fed_between fed) (fed_lines fed)

-- A client that has closed is cut. Another has nothing more to send, and the octets behind the last whole message wait in its input.
abbrev pub left_fed : Fed → Option CloseReason → Seat
left_fed fed None = record fed.seat { client = with_input (messages_fed fed).1 (without_output (reacted_to fed).client) }
left_fed fed (Some reason) = cut_seat (record fed.seat { client = (reacted_to fed).client })

-- so it is in every script of one hub
abbrev pub FeedsAsMessages : Type 0
FeedsAsMessages = (script : List ℕ) (fed : Fed) → FeedsLone script fed
    → ((records : HeldRecords) → reply_to_script records script ≡ fed_reply records fed) × (seat_of (world_behind (fed_between fed)) fed.word ≡ Some (left_fed fed (closed_as (reacted_to fed).client)))
