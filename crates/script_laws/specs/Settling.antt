-- What is to be shown of a settle: it ends, and where it has printed its line alone nothing is under way.
--     SaysStop, StoppedOnesSaidSo      a session that was stopped made a message that asks its client to stop (RFC 8490, 6.6.1)
--     QuietAtLast      where a round moves no octet and reacts to nothing
--     RoundsFall, FewRoundsEnd      what falls in each other round; so rounds come to an end
--     SettlesEmpty      rounds that come to one that is still
--     TurnsSufficeIn script, TurnsSuffice, IsLittleAtSettles      each settle of a script does, by a number that falls
--     SettlesEmptyIn script, SettlesOfLines      where it has printed its line alone nothing is under way behind it
use Rattle.std.specs.Prelude.{◌≡◌, ℕ, zero, suc, ◌<◌, Bool, true, false, List, [], ◌∷◌, ◌++◌, Option, Some, None, IsTrue}
use Rattle.dsotlv.specs.Answers.{stop_message}
use Rattle.pushsession.specs.declared.session_status.SessionStatus.{SessionStatus}
use Rattle.pushsession.specs.declared.session_status.SessionStatus.TheVariants.{Stopped}
use Rattle.pushserver.specs.PlainHubs.{Hub, Session, Made}
use Rattle.pushserver.specs.Hubs.{session_of}
use Rattle.pushclient.specs.Clients.{Connection, closed_as}
use Rattle.dsosession.specs.declared.session.EndReason.{EndReason}
use Rattle.scripts.specs.Lines.{Word, ScriptLine, settle}
use Rattle.replay.specs.Text.{world_after}
use Rattle.replay.specs.World.{World, Seat, seat_of, start_world}
use Rattle.replay.specs.PassedOctets.{is_still, enough, round, settled}
use Rattle.replay.specs.Promises.{ShownPoints, IsQuiet, SeatIsQuiet}
use Rattle.replay.specs.HeldPoints.{settles_alone}
use Rattle.script_laws.specs.Lines.{AreLines}
use Rattle.script_laws.specs.Reached.{IsReached}
use Rattle.script_laws.specs.Joined.{IsJoined, Waits}

-- one of these messages asks a client to stop
pub record SaysStop (made : List Made) : Type 0 where
  pub front : List Made
  pub one : Made
  pub back : List Made
  pub are : made ≡ front ++ one ∷ back
  pub rcode : ℕ
  pub delay : ℕ
  pub says : one.message ≡ stop_message rcode delay

abbrev pub is_stopped : SessionStatus → Bool
is_stopped (Stopped since) = true
is_stopped _ = false

abbrev pub StoppedOnesSaidSo : Type 0
StoppedOnesSaidSo = (hub : Hub) (number : ℕ) (session : Session) → IsReached hub → session_of hub number ≡ Some session → is_stopped session.standing ≡ true → SaysStop session.made

-- ---- a round

-- with whatever session and connection is there
abbrev pub IsEmptied : Hub → Seat → ℕ → Type 0
IsEmptied hub seat number = (session : Session) (c : Connection) → session_of hub number ≡ Some session → seat.client.connection ≡ Some c → IsQuiet hub seat number session c

-- the client is open then, and no end was told
abbrev pub QuietAtLast : Type 0
QuietAtLast = (number : ℕ) (world : World) (shown : ShownPoints) (seat : Seat) (session : Session) (c : Connection) → IsReached world.hub → IsJoined world.hub shown seat number session c → Waits c
    → let r = round number world seat in
    is_still r ≡ true → r.over ≡ None → closed_as r.seat.client ≡ None → IsEmptied r.world.hub r.seat number

-- ---- rounds one behind another

-- so many rounds, at most, come to one that is still
abbrev pub ends_still : ℕ → ℕ → World → Seat → Bool
ends_still zero number world seat = false
ends_still (suc turns) number world seat = let r = round number world seat in elim (is_still r) [ true ↦ true | false ↦ ends_still turns number r.world r.seat ]

-- a number of a session's world and its seat falls in each round that isn't still
abbrev pub RoundsFall : (ℕ → World → Seat → ℕ) → Type 0
RoundsFall size = (number : ℕ) (world : World) (shown : ShownPoints) (seat : Seat) (session : Session) (c : Connection) → IsReached world.hub → IsJoined world.hub shown seat number session c → Waits c
    → let r = round number world seat in is_still r ≡ false → size number r.world r.seat < size number world seat

-- where it is less than the turns
abbrev pub FewRoundsEnd : (ℕ → World → Seat → ℕ) → Type 0
FewRoundsEnd size = (turns number : ℕ) (world : World) (shown : ShownPoints) (seat : Seat) (session : Session) (c : Connection) → IsReached world.hub → IsJoined world.hub shown seat number session c → Waits c
    → size number world seat < turns → ends_still turns number world seat ≡ true

-- rounds that come to an end, where no end and no close were told
abbrev pub SettlesEmpty : Type 0
SettlesEmpty = (turns number : ℕ) (over : Option EndReason) (world : World) (shown : ShownPoints) (seat : Seat) (session : Session) (c : Connection) → IsReached world.hub → IsJoined world.hub shown seat number session c → Waits c
    → ends_still turns number world seat ≡ true
    → let p = settled turns number world seat over in p.over ≡ None → closed_as p.seat.client ≡ None → IsEmptied p.world.hub p.seat number

-- ---- whole scripts

-- of each settle of a client with a session
abbrev pub TurnsSufficeIn : List ScriptLine → Type 0
TurnsSufficeIn script = (before after : List ScriptLine) (w : Word) (seat : Seat) (number : ℕ) → script ≡ before ++ settle w ∷ after
    → let world = world_after before (start_world script) in
    seat_of world w ≡ Some seat → seat.session ≡ Some number → ends_still enough number world seat ≡ true

abbrev pub TurnsSuffice : Type 0
TurnsSuffice = (script : List ScriptLine) → AreLines script → TurnsSufficeIn script

-- a number that falls is less than the turns there
abbrev pub IsLittleAtSettles : (ℕ → World → Seat → ℕ) → Type 0
IsLittleAtSettles size = (script before after : List ScriptLine) (w : Word) (seat : Seat) (number : ℕ) → AreLines script → script ≡ before ++ settle w ∷ after
    → let world = world_after before (start_world script) in
    seat_of world w ≡ Some seat → seat.session ≡ Some number → size number world seat < enough

-- a settle that has printed its line alone leaves nothing under way
abbrev pub SettlesEmptyIn : List ScriptLine → Type 0
SettlesEmptyIn script = (before after : List ScriptLine) (w : Word) (seat : Seat) → script ≡ before ++ settle w ∷ after
    → IsTrue (settles_alone w (settle w) (world_after before (start_world script)))
    → let world = world_after (before ++ settle w ∷ []) (start_world script) in
    seat_of world w ≡ Some seat → SeatIsQuiet world.hub seat

abbrev pub SettlesOfLines : Type 0
SettlesOfLines = (script : List ScriptLine) → AreLines script → SettlesEmptyIn script
