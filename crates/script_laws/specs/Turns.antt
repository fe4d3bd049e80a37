-- A number that falls in each round of a settle, and how large it is behind the lines of a script.
--     work_left number world seat      what is still to be done between a client and its session
--     Lowers number world seat p      a passing leaves less by the octets that it moved, and less where a message was reacted to
--     LowersAlways passing number      it does from wherever both ends are joined
--     QueuesAreShort, ScriptsAreShort      bounds of what waits for a session, and of a script
--     IsSized n seat, SizedAfterLines      what a client owes behind so many lines
use Rattle.std.specs.Prelude.{◌≡◌, ℕ, ◌+◌, ◌*◌, ◌<◌, ◌≤◌, ◌^◌, true, false, List, ◌++◌, length, Option, Some, None, Ok}
use Rattle.std.specs.List.{AllByRecursion}
use Rattle.push_base.specs.Limits.{max_questions}
use Rattle.pushsession.specs.declared.session_status.SessionStatus.{SessionStatus}
use Rattle.pushsession.specs.declared.session_status.SessionStatus.TheVariants.{AskedToStop}
use Rattle.pushserver.specs.PlainHubs.{Hub, Session}
use Rattle.pushserver.specs.Hubs.{session_of}
use Rattle.pushclient.specs.Clients.{Client, Connection, output_of}
use Rattle.scripts.specs.Lines.{ScriptLine}
use Rattle.scripts.specs.Scripts.{max_script, script_of}
use Rattle.replay.specs.World.{World, Seat, start_world}
use Rattle.replay.specs.PassedOctets.{Passed}
use Rattle.replay.specs.Text.{world_after}
use Rattle.replay.specs.Promises.{ShownPoints}
use Rattle.script_laws.specs.Lines.{AreLines}
use Rattle.script_laws.specs.Reached.{IsReached}
use Rattle.script_laws.specs.Joined.{IsJoined}

-- ---- what is to be done

-- more than the octets of two of the longest frames (RFC 7766, 8): each octet of a session's output moves twice
abbrev pub reaction_cost : ℕ
reaction_cost = 131075

-- a stop that was asked for and isn't said yet
abbrev pub asked_stops : SessionStatus → ℕ
asked_stops (AskedToStop rcode delay) = 1
asked_stops _ = 0

-- octets to hand out; and an octet that came, a name that waits and a stop may each have a frame written
abbrev pub work_of : Session → ℕ
work_of session = 2 * length session.output + reaction_cost * (length session.input + length session.queue + asked_stops session.standing)

abbrev pub work_in : Option Session → ℕ
work_in None = 0
work_in (Some session) = work_of session

-- a client's octets to send, and an UNSUBSCRIBE of 20 octets for each question, which the answer may call for (RFC 8765, 6.4)
abbrev pub owes : Client → ℕ
owes client = length (output_of client) + 20 * length client.wishes

-- one step more for each octet that is further from its end
abbrev pub work_left : ℕ → World → Seat → ℕ
work_left number world seat = work_in (session_of world.hub number) + length seat.down_wire + (reaction_cost + 1) * length seat.up_wire + (reaction_cost + 2) * owes seat.client

-- ---- a passing

pub record Lowers (number : ℕ) (world : World) (seat : Seat) (p : Passed) : Type 0 where
  pub moved : work_left number p.world p.seat + p.count ≤ work_left number world seat
  pub reacted : p.reacted ≡ true → work_left number p.world p.seat < work_left number world seat
  pub owed : owes p.seat.client ≤ owes seat.client

abbrev pub LowersAlways : (World → Seat → Passed) → ℕ → Type 0
LowersAlways passing number = (world : World) (shown : ShownPoints) (seat : Seat) (session : Session) (c : Connection)
    → IsReached world.hub → IsJoined world.hub shown seat number session c → Lowers number world seat (passing world seat)

-- ---- bounds

-- the names of at most 1,024 questions wait, and each waits once
abbrev pub QueuesAreShort : Type 0
QueuesAreShort = (hub : Hub) (number : ℕ) (session : Session) → IsReached hub → session_of hub number ≡ Some session → length session.queue ≤ max_questions

-- a line has an octet at least
abbrev pub ScriptsAreShort : Type 0
ScriptsAreShort = (text : List ℕ) (script : List ScriptLine) → script_of text ≡ Ok script → length script ≤ max_script

-- what a client of the hub may owe behind so many lines: all its questions are asked anew where its connection opens, and each other line adds one frame
abbrev pub most_owed : ℕ → ℕ
most_owed lines = 2 ^ 27 + 2 ^ 17 * lines

abbrev pub IsSized : ℕ → Seat → Type 0
IsSized lines seat = seat.is_lone ≡ false → owes seat.client ≤ most_owed lines

abbrev pub SizedAfterLines : Type 0
SizedAfterLines = (script before after : List ScriptLine) → AreLines script → script ≡ before ++ after
    → AllByRecursion (IsSized (length before)) (world_after before (start_world script)).seats
