-- What holds throughout a script: after each of its lines, and of each session behind any of the calls that they make.
--     HoldsHistoryIn script      what a client holds after a line is the history
--     AreMirrorsOfHistory script, ReplaysMirrorHistory      the sets of the clients that ran it are the history's; so are those that `replay` hands back
--     SessionReacts number calls hub session, SessionsReactIn script      each message that came to a session has its turn, and what was made is what the turns make
--     HoldsThroughout script, LinesHoldThroughout, EveryScriptHolds      all of it, and what `show` lines promise; of lines, and of every text
use Rattle.std.specs.Prelude.{◌≡◌, ℕ, List, ◌∷◌, ◌++◌, Some, Ok}
use Rattle.pushserver.specs.PlainHubs.{Hub, Session}
use Rattle.pushserver.specs.Hubs.{session_of}
use Rattle.pushserver.specs.Calls.{HubCall, after_calls}
use Rattle.pushserver.specs.KeptHubs.{KeptHub}
use Rattle.pushclient.specs.Clients.{Connection}
use Rattle.pushclient.specs.Rule.{KeptClient}
use Rattle.pushtelling.specs.Runs.{reacted_to}
use Rattle.scripts.specs.Lines.{ScriptLine}
use Rattle.scripts.specs.Scripts.{script_of}
use Rattle.replay.specs.World.{Seat, start_world}
use Rattle.replay.specs.Text.{world_after}
use Rattle.replay.specs.TextWords.{by_history, by_notices}
use Rattle.replay.specs.Promises.{KeepsPromises, ShownPoints, ConnectionHolds, WhatIsHeld, EndsStandFor}
use Rattle.replay.specs.KeptEnds.{AreEnds}
use Rattle.replay.specs.declared.ends.Ends.{Ends}
use Rattle.replay.specs.LineCalls.{AreFirst}
use Rattle.script_laws.specs.EachMessage.{IsReactedTo, HasItsTurn, TurnHasEffect, messages_of}
use Rattle.script_laws.specs.InTurn.{made_in}
use Rattle.script_laws.specs.Lines.{AreLines}
use Rattle.script_laws.specs.Sending.{AnswersSendsIn}
use Rattle.script_laws.specs.Settling.{TurnsSufficeIn, SettlesEmptyIn}
use Rattle.script_laws.specs.Whole.{FitsAfterEachLine, NoMessageEndsIn}

-- after some lines, of each client whose connection holds: it holds the history at the points of the notes that came with it
abbrev pub HoldsHistoryIn : List ScriptLine → Type 0
HoldsHistoryIn script = (before after : List ScriptLine) (shown : ShownPoints) (seat : Seat) (session : Session) (c : Connection) → script ≡ before ++ after
    → let hub = (world_after before (start_world script)).hub in
    (holds : ConnectionHolds hub shown seat session c) → WhatIsHeld hub seat session holds.flight.taken holds.flight.flying

-- a hub and clients that stand for those behind the last line hold what the history has, not just what the notices lead to
abbrev pub AreMirrorsOfHistory : List ScriptLine → Type 0
AreMirrorsOfHistory script = (kept : KeptHub) (clients : List KeptClient)
    → let world = world_after script (start_world script) in
    EndsStandFor by_notices kept clients world → EndsStandFor by_history kept clients world

abbrev pub ReplaysMirrorHistory : Type 0
ReplaysMirrorHistory = (octets : List ℕ) (ends : Ends) (script : List ScriptLine) → AreEnds octets ends → script_of octets ≡ Ok script
    → EndsStandFor by_history ends.hub.hub ends.clients.items (world_after script (start_world script))

-- The octets that came are the messages that were reacted to, and what waits; each of these has its turn, in which what the server's table
-- tells is done; and the session's messages are those that its turns make, and that it makes between them.
pub record SessionReacts (number : ℕ) (calls : List HubCall) (hub : Hub) (session : Session) : Type 0 where
  pub messages : IsReactedTo number calls hub session
  pub turns : (front : List (List ℕ)) (message : List ℕ) (back : List (List ℕ)) → reacted_to number calls hub ≡ front ++ message ∷ back
      → (turn : HasItsTurn number calls hub front message) × TurnHasEffect number calls hub front message turn
  pub made : messages_of session ≡ made_in number calls hub

-- of each session, a client's or a peer's, behind any calls that the script begins with
abbrev pub SessionsReactIn : List ScriptLine → Type 0
SessionsReactIn script = (calls : List HubCall) (number : ℕ) (session : Session) → AreFirst calls script
    → let hub = (start_world script).hub in
    session_of (after_calls calls hub) number ≡ Some session → SessionReacts number calls hub session

pub record HoldsThroughout (script : List ScriptLine) : Type 0 where
  -- no `held` line goes back, and after a settle each shows the newest records
  pub promises : KeepsPromises script
  -- after each line what is under way between each client and its session fits both
  pub fits : FitsAfterEachLine script
  -- and what the client holds is the history
  pub held : HoldsHistoryIn script
  pub mirrors : AreMirrorsOfHistory script
  -- no message of a session ends it, nor closes its client, but a Retry Delay
  pub ends : NoMessageEndsIn script
  -- each message that comes to a session has its turn
  pub sessions : SessionsReactIn script
  -- what a peer sends in a line is answered in it
  pub sends : AnswersSendsIn script
  -- each settle comes to its end, and where it prints its line alone nothing is left under way
  pub turns : TurnsSufficeIn script
  pub settles : SettlesEmptyIn script

-- of lines that were read, each of which may stand where it stands
abbrev pub LinesHoldThroughout : Type 0
LinesHoldThroughout = (script : List ScriptLine) → AreLines script → HoldsThroughout script

-- of every text that is a script
abbrev pub EveryScriptHolds : Type 0
EveryScriptHolds = (text : List ℕ) (script : List ScriptLine) → script_of text ≡ Ok script → HoldsThroughout script
