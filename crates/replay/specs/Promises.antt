-- The promises of a script's text, and what is handed back when it has run.
--     EveryScriptKeepsPromises      no `held` line goes back, and after a settle each shows the newest records
--     EveryScriptTellsOneText      what is held is what the notices taken lead to
--     HoldsAfterEachLine      after each line, of each connected client, what is under way fits
--     HoldsTheHistory      where it fits, the client holds the history at the points of the notes that came with it
--     EverySettleEmptiesBothWays      a settle that prints its line alone leaves nothing under way
--     NoMessageEnds      what is printed of a hub's client tells no end and no close that a message makes, but Retry Delay
--     EndsStandFor records kept clients world      the hub and the clients that ran a script
use Rattle.std.specs.Prelude.{◌≡◌, ℕ, ◌+◌, ◌≤◌, ◌<◌, Bool, true, false, not, ◌||◌, List, [], ◌∷◌, ◌++◌, map, length, filter_map, Some, None, is_none, option_map, Ok, IsTrue, codes, if◌then◌else◌}
use Rattle.std.specs.List.{AllByRecursion, AllZip, IsDistinct}
use Rattle.std.specs.Str.{bytes_eq}
use Rattle.push_base.specs.Limits.{max_input}
use Rattle.dnsname.specs.Names.{Labels}
use Rattle.rrset.specs.RecordSet.{RecordSet, matching}
use Rattle.rrset.specs.declared.record.Question.{Question}
use Rattle.dsotlv.specs.Messages.{first_message}
use Rattle.dsotlv.specs.Notices.{applied_all}
use Rattle.dsosession.specs.declared.session.EndReason.{EndReason}
use Rattle.dsosession.specs.declared.session.EndReason.TheVariants as ends
use Rattle.dsosession.specs.declared.session.CloseReason.{CloseReason}
use Rattle.dsosession.specs.declared.session.CloseReason.TheVariants as closes
use Rattle.pushsession.specs.declared.session_status.SessionStatus.{SessionStatus}
use Rattle.pushsession.specs.declared.session_status.SessionStatus.TheVariants.{Ended}
use Rattle.pushsession.specs.Sessions.{is_open}
use Rattle.pushserver.specs.PlainHubs.{Session, Made, size_of_made, Hub, told, note_of, sent}
use Rattle.pushserver.specs.Hubs.{newest, state_now, records_now, session_of}
use Rattle.pushserver.specs.declared.given.Given.TheVariants.{Nothing}
use Rattle.pushserver.specs.Giving.{is_served_at, give}
use Rattle.pushserver.specs.ToldMessages.{TellsHistory, records_noted}
use Rattle.pushserver.specs.KeptHubs.{KeptHub, StandsFor}
use Rattle.pushclient.specs.Clients.{Client, Connection, Wish, answered, wish_for, held, Held, set_held}
use Rattle.mirror.specs.Held.{set_of}
use Rattle.pushclient.specs.Rule.{KeptClient, without_told}
use Rattle.inflight.specs.Messages.{Flying, made_of}
use Rattle.inflight.specs.Ends.{ends_of, going_up, going_down}
use Rattle.inflight.specs.Flight.{AreSoundWishes, InFlight, FirstAnswersEnd}
use Rattle.inflight.specs.Holding.{will_hold, HoldsThen}
use Rattle.scripts.specs.Lines.{Word, ScriptLine, show, settle}
use Rattle.scripts.specs.Scripts.{is_among, script_of}
use Rattle.replay.specs.World.{World, Seat, seat_of, start_world, last_of}
use Rattle.replay.specs.TextWords.{HeldRecords, by_history, show_at, with_records, is_filling, records_told, shown_lines, end_line, closed_line}
use Rattle.replay.specs.Text.{line_does, world_after}
use Rattle.replay.specs.ScriptTexts.{text_of_script, text_by_notices}
use Rattle.replay.specs.PassedOctets.{max_wire}
use Rattle.replay.specs.HeldPoints.{NeverEarlier, held_points_from, settled_from, settles_alone}
use Rattle.pushclient.specs.SoundClients.{count_of}

abbrev pub is_wanted : Client → Question → Bool
is_wanted client question = elim (wish_for client question) [ None ↦ false | Some w ↦ w.wanted ]

-- the lines of a `show` that tells records
abbrev pub held_lines : Word → Question → List ℕ → RecordSet → List (List ℕ)
held_lines w question written set = shown_lines w question written (with_records (codes "held") set)

-- a `show` of a question that the client wants, and that is served, prints the records of the newest point
abbrev pub ShowsNewest : World → Word → Type 0
ShowsNewest world w = (seat : Seat) (question : Question) (written : List ℕ) → seat_of world w ≡ Some seat → IsTrue (is_wanted seat.client question)
    → IsTrue (is_served_at (state_now world.hub) question)
    → (line_does by_history (show w question written) world).1 ≡ held_lines w question written (matching question (records_now world.hub))

abbrev pub KeepsPromises : List ScriptLine → Type 0
KeepsPromises script = (w : Word)
    → ((question : Question) → NeverEarlier script w question)
    × ((before after : List ScriptLine) → script ≡ before ++ after → IsTrue (settled_from w false before (start_world script)) → ShowsNewest (world_after before (start_world script)) w)

-- for every text that is a script
abbrev pub EveryScriptKeepsPromises : Type 0
EveryScriptKeepsPromises = (text : List ℕ) (script : List ScriptLine) → script_of text ≡ Ok script → KeepsPromises script

abbrev pub EveryScriptTellsOneText : Type 0
EveryScriptTellsOneText = (text : List ℕ) (script : List ScriptLine) → script_of text ≡ Ok script → text_of_script script ≡ text_by_notices script

-- once the first answer has arrived, the notices taken lead to the records that the history has at the note's point on the last message taken
abbrev pub HoldsHistory : Hub → List Made → Seat → Wish → Type 0
HoldsHistory hub taken seat w = (id : ℕ) → w.standing ≡ answered id → IsTrue (not (is_filling seat id))
    → applied_all w.notices w.question [] ≡ records_told hub (option_map (λ m. m.note) (last_of taken)) w.question

-- ---- after each line, of each client of the hub

-- the points that `held` lines have shown of each question
abbrev pub ShownPoints : Type 0
ShownPoints = Question → List ℕ

-- none is greater than this one of its question
abbrev pub ShowsNoLater : ShownPoints → (Question → ℕ) → Type 0
ShowsNoLater shown point = (question : Question) → AllByRecursion (λ p. p ≤ point question) (shown question)

-- the point that the last message taken gives for a question, and where none was taken that of connecting
abbrev pub point_taken : ℕ → List Made → Question → ℕ
point_taken start taken question = elim (last_of taken) [ None ↦ start | Some m ↦ told m.note question.name ]

-- ends that no message makes
abbrev pub is_end_by_itself : EndReason → Bool
is_end_by_itself ends.Silent = true
is_end_by_itself ends.Idle = true
is_end_by_itself ends.Stopped = true
is_end_by_itself (ends.Behind point) = true
is_end_by_itself _ = false

-- if it has ended, then for such a reason
abbrev pub EndedByItself : SessionStatus → Type 0
EndedByItself (Ended reason) = IsTrue (is_end_by_itself reason)
EndedByItself _ = Unit {0}

-- no wire and no input holds more than it may
pub record AreWithinBounds (seat : Seat) (session : Session) (c : Connection) : Type 0 where
  pub up_wire : length seat.up_wire ≤ max_wire
  pub down_wire : length seat.down_wire ≤ max_wire
  pub client_input : length c.input ≤ max_input
  pub session_input : length session.input ≤ max_input

-- between two lines: what is under way fits, the octets that have reached the client are counted, no whole message waits at it, and it is not closed
pub record ConnectionHolds (hub : Hub) (shown : ShownPoints) (seat : Seat) (session : Session) (c : Connection) : Type 0 where
  pub flight : InFlight (ends_of hub seat.filled session seat.client c) (going_up session c seat.up_wire) (going_down session c seat.down_wire)
  pub history : TellsHistory hub session
  pub ends : FirstAnswersEnd session
  pub reached : seat.reached ≡ size_of_made flight.taken + length c.input
  pub waits : first_message c.input ≡ None
  pub unclosed : c.closed ≡ None
  pub bounds : AreWithinBounds seat session c
  pub ended : EndedByItself session.standing
  -- a point: no note gives an earlier one, and no greater one was shown before a message was taken; so it is of the newest when the connection was opened
  pub start : ℕ
  pub since : AllByRecursion (λ n. (name : Labels) → start ≤ told n name) (map (λ m. m.note) session.made ++ note_of (newest hub) session ∷ [])
  pub shown_before : ShowsNoLater shown (point_taken start flight.taken)

-- without a connection nothing is on the wires and nothing was told
pub record IsUnconnected (hub : Hub) (shown : ShownPoints) (seat : Seat) : Type 0 where
  pub client : IsTrue (seat.is_lone || is_none seat.client.connection)
  pub wishes : IsTrue (not seat.is_lone) → AreSoundWishes seat.client.wishes
  pub up_wire : seat.up_wire ≡ []
  pub down_wire : seat.down_wire ≡ []
  pub reached : seat.reached ≡ 0
  pub filled : seat.filled ≡ []
  pub shown_before : ShowsNoLater shown (λ question. newest hub)

-- a seat with a session, which the hub has, has a connection
pub record IsConnected (hub : Hub) (shown : ShownPoints) (seat : Seat) (number : ℕ) : Type 0 where
  pub lone : seat.is_lone ≡ false
  pub session : Session
  pub connection : Connection
  pub there : session_of hub number ≡ Some session
  pub connected : seat.client.connection ≡ Some connection
  pub holds : ConnectionHolds hub shown seat session connection

abbrev pub SeatHolds : Hub → (Word → ShownPoints) → Seat → Type 0
SeatHolds hub shown seat = elim seat.session as (λ _. Type 0) [ None ↦ IsUnconnected hub (shown seat.word) seat | Some number ↦ IsConnected hub (shown seat.word) seat number ]

-- the numbers of the sessions of clients and peers
abbrev pub numbers_of : World → List ℕ
numbers_of world = filter_map (λ s. s.session) world.seats ++ map (λ p. p.1) world.peers

-- each session of the hub is that of one client or peer, whose word no other one has
pub record NumbersFit (world : World) : Type 0 where
  pub distinct : (number : ℕ) → count_of number (numbers_of world) ≤ 1
  pub below : AllByRecursion (λ number. number < world.hub.numbers_given) (numbers_of world)
  pub all : (number : ℕ) → count_of number (map (λ e. e.0) world.hub.sessions) ≡ count_of number (numbers_of world)
  pub words : IsDistinct bytes_eq (map (λ s. s.word) world.seats ++ map (λ p. p.0) world.peers)

pub record WorldHolds (shown : Word → ShownPoints) (world : World) : Type 0 where
  pub numbers : NumbersFit world
  pub seats : AllByRecursion (SeatHolds world.hub shown) world.seats

-- after some lines of a script
abbrev pub HoldsAfter : List ScriptLine → World → Type 0
HoldsAfter lines world = WorldHolds (λ w question. held_points_from w question lines world) (world_after lines world)

abbrev pub HoldsAfterEachLine : Type 0
HoldsAfterEachLine = (text : List ℕ) (script before after : List ScriptLine) → script_of text ≡ Ok script → script ≡ before ++ after → HoldsAfter before (start_world script)

-- ---- what follows where a connection holds

-- after each further message the client holds the records at its note's point, and after all of them what counts as sent
pub record HoldsAlong (hub : Hub) (seat : Seat) (session : Session) (taken : List Made) (flying : List Flying) : Type 0 where
  pub each : (front back : List Flying) (f : Flying) → flying ≡ front ++ f ∷ back
      → AllByRecursion (λ w. (id : ℕ) → will_hold (front ++ f ∷ []) w ≡ Some id
      → HoldsThen seat.filled (taken ++ map (made_of hub.timers) (front ++ f ∷ [])) id w.question (records_noted hub f.note w.question)) seat.client.wishes
  pub all : IsTrue (is_open session.standing)
      → AllByRecursion (λ w. (id : ℕ) → will_hold flying w ≡ Some id → HoldsThen seat.filled session.made id w.question (matching w.question (sent hub session w.question.name))) seat.client.wishes

-- what the client holds is the history at the points of the notes that came with it
pub record WhatIsHeld (hub : Hub) (seat : Seat) (session : Session) (taken : List Made) (flying : List Flying) : Type 0 where
  pub last : AllByRecursion (HoldsHistory hub taken seat) seat.client.wishes
  pub along : HoldsAlong hub seat session taken flying

abbrev pub HoldsTheHistory : Type 0
HoldsTheHistory = (hub : Hub) (shown : ShownPoints) (seat : Seat) (session : Session) (c : Connection) (holds : ConnectionHolds hub shown seat session c)
    → WhatIsHeld hub seat session holds.flight.taken holds.flight.flying

-- nothing is under way, and the session has nothing to say
pub record IsQuiet (hub : Hub) (seat : Seat) (number : ℕ) (session : Session) (c : Connection) : Type 0 where
  pub up : going_up session c seat.up_wire ≡ []
  pub down : going_down session c seat.down_wire ≡ []
  pub nothing : (give hub number 1).given ≡ Nothing

abbrev pub SeatIsQuiet : Hub → Seat → Type 0
SeatIsQuiet hub seat = (number : ℕ) (session : Session) (c : Connection) → seat.session ≡ Some number → session_of hub number ≡ Some session → seat.client.connection ≡ Some c → IsQuiet hub seat number session c

abbrev pub EverySettleEmptiesBothWays : Type 0
EverySettleEmptiesBothWays = (text : List ℕ) (script before after : List ScriptLine) (w : Word) (seat : Seat) → script_of text ≡ Ok script → script ≡ before ++ settle w ∷ after
    → IsTrue (settles_alone w (settle w) (world_after before (start_world script)))
    → let world = world_after (before ++ settle w ∷ []) (start_world script) in
    seat_of world w ≡ Some seat → SeatIsQuiet world.hub seat

-- the client's own timer, and Retry Delay
abbrev pub is_close_by_itself : CloseReason → Bool
is_close_by_itself closes.Idle = true
is_close_by_itself (closes.Delay ms rcode) = true
is_close_by_itself _ = false

-- what a line prints of a hub's client tells no end but of such a reason, and no close but of such a one
pub record EndsByItself (world : World) (line : ScriptLine) (seat : Seat) : Type 0 where
  pub end : (reason : EndReason) → IsTrue (is_among (line_does by_history line world).1 (end_line seat.word reason)) → IsTrue (is_end_by_itself reason)
  pub close : (reason : CloseReason) → IsTrue (is_among (line_does by_history line world).1 (closed_line seat.word reason)) → IsTrue (is_close_by_itself reason)

abbrev pub NoMessageEnds : Type 0
NoMessageEnds = (text : List ℕ) (script before after : List ScriptLine) (line : ScriptLine) (w : Word) (seat : Seat) → script_of text ≡ Ok script → script ≡ before ++ line ∷ after
    → let world = world_after before (start_world script) in
    seat_of world w ≡ Some seat → seat.is_lone ≡ false → EndsByItself world line seat

-- whether `show` tells records of a question
abbrev pub shows_records : Seat → Held → Bool
shows_records seat (set_held id set) = if seat.is_lone then true else not (is_filling seat id)
shows_records seat _ = false

-- the set that is kept of a question is the one that `show` tells, where it tells one
pub record ClientStandsFor (records : HeldRecords) (world : World) (kept : KeptClient) (seat : Seat) : Type 0 where
  pub wishes : kept.wishes ≡ map without_told seat.client.wishes
  pub connection : kept.connection ≡ seat.client.connection
  pub now : kept.now ≡ seat.client.now
  pub sets : (question : Question) → IsTrue (shows_records seat (held seat.client question)) → set_of question kept.sets ≡ Some (show_at records world seat question).1

-- the hub and the clients, in the order of their lines, that ran the script
pub record EndsStandFor (records : HeldRecords) (kept : KeptHub) (clients : List KeptClient) (world : World) : Type 0 where
  pub hub : StandsFor kept world.hub
  pub seats : AllZip (ClientStandsFor records world) clients world.seats
