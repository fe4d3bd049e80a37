-- A hub: one history, and the sessions that are told of it (RFC 8765), whatever a session keeps.
--     SessionKind      what the sessions of a hub keep, and what is told to them
--     HubOf, empty_hub      a hub; one in which nothing has changed and nobody asks
--     newest, state_now, now, records_now      the newest point, and the state and the records there
--     entry_changes entry hub, entered entry hub      the keys that an entry changes; the hub after it
--     behind_at hub entry session, entered_keeping entry hub      why a session falls behind by an entry; such ones end, and then it is made
--     update, hear, link_gone, moment, connect, take_octets, stop, disconnect      the calls beside `give`
use Rattle.std.specs.Prelude.{ℕ, ◌+◌, Bool, true, false, not, ◌&&◌, cond, List, [], ◌∷◌, ◌++◌, length, min, Option, Some, None, Ok, Err, nat_lt, option_map, if◌then◌else◌}
use Rattle.push_base.specs.Limits.{max_number}
use Rattle.dnsname.specs.Reading.{place_of}
use Rattle.rrset.specs.RecordSet.{RecordSet, changes}
use Rattle.rrset.specs.Rcodes.{noerror, servfail}
use Rattle.rrset.specs.declared.record.Changed.{Changed}
use Rattle.dnswire.specs.Reading.{hearing_of}
use Rattle.dnswire.specs.declared.message.WireFault.{WireFault}
use Rattle.dnswire.specs.declared.message.WireFault.TheVariants as wires
use Rattle.dnswire.specs.declared.message.HearFault.{HearFault}
use Rattle.dnswire.specs.declared.message.HearFault.TheVariants as hearfaults
use Rattle.dsosession.specs.declared.session.Timers.{Timers}
use Rattle.dsosession.specs.declared.session.EndReason.TheVariants as ends
use Rattle.history.specs.States.{State, verdict, accepts, records, entry_size, journal_has_room}
use Rattle.history.specs.declared.entry.Entry.{Entry}
use Rattle.history.specs.declared.entry.Entry.TheVariants as entries
use Rattle.pushsession.specs.Sessions.{SessionOf, Keeps, new_session, is_open, room_of, with_piece, asked_to_stop, ended_where, timed, noted}
use Rattle.pushsession.specs.Subscribing.{Tells}
use Rattle.livesessions.specs.NumberedSessions.{session_in, in_sessions, all_sessions, without_session}
use Rattle.livesessions.specs.declared.numbered_sessions.TheConstants as sessions
use Rattle.pushserver.specs.declared.given.Why.{Why}
use Rattle.pushserver.specs.declared.given.Why.TheVariants as whys
use Rattle.pushserver.specs.declared.given.Heard.{Heard}
use Rattle.pushserver.specs.declared.given.Heard.TheVariants.{Entered, Ignored}

-- what sessions keep where so many entries are made, and what is told to them of a start and the entries since; and what else a hub
-- knows of its history, of which it may keep the last entries alone
pub record SessionKind (Asked Queue Messages Seen : Type 0) : Type 0 where
  pub keeps : ℕ → Keeps Asked Queue Messages
  pub tells : Seen → State → List Entry → Tells Asked Queue
  -- the state after all entries; how many there were; those from a point on; one more is made
  pub state : Seen → State → List Entry → State
  pub newest : Seen → List Entry → ℕ
  pub since : Seen → ℕ → List Entry → List Entry
  pub enters : Entry → Seen → Seen

-- a state, what is granted to a Keepalive, the entries since, what else is known of the history, the sessions with their numbers, and how many numbers were given to sessions
pub record HubOf {A Q M S : Type 0} (kind : SessionKind A Q M S) : Type 0 where
  pub start : State
  pub timers : Timers
  pub history : List Entry
  pub seen : S
  pub sessions : List (ℕ × SessionOf A Q M)
  pub numbers_given : ℕ

abbrev pub empty_hub : {A Q M S : Type 0} (kind : SessionKind A Q M S) → S → State → Timers → HubOf kind
empty_hub kind seen start timers = record { start = start; timers = timers; history = []; seen = seen; sessions = []; numbers_given = 0 }

-- ---- what a hub has now

abbrev pub newest : {A Q M S : Type 0} {kind : SessionKind A Q M S} → HubOf kind → ℕ
newest {kind = kind} hub = kind.newest hub.seen hub.history

abbrev pub state_now : {A Q M S : Type 0} {kind : SessionKind A Q M S} → HubOf kind → State
state_now {kind = kind} hub = kind.state hub.seen hub.start hub.history

abbrev pub now : {A Q M S : Type 0} {kind : SessionKind A Q M S} → HubOf kind → ℕ
now hub = (state_now hub).now

abbrev pub records_now : {A Q M S : Type 0} {kind : SessionKind A Q M S} → HubOf kind → RecordSet
records_now hub = records (state_now hub)

-- what its sessions keep now, and what is told to them
abbrev pub keeps_now : {A Q M S : Type 0} {kind : SessionKind A Q M S} → HubOf kind → Keeps A Q M
keeps_now {kind = kind} hub = kind.keeps (newest hub)

abbrev pub tells_now : {A Q M S : Type 0} {kind : SessionKind A Q M S} → HubOf kind → Tells A Q
tells_now {kind = kind} hub = kind.tells hub.seen hub.start hub.history

abbrev pub session_of : {A Q M S : Type 0} {kind : SessionKind A Q M S} → HubOf kind → ℕ → Option (SessionOf A Q M)
session_of hub number = session_in number hub.sessions

abbrev pub each_session : {A Q M S : Type 0} {kind : SessionKind A Q M S} → (SessionOf A Q M → SessionOf A Q M) → HubOf kind → HubOf kind
each_session f hub = record hub { sessions = all_sessions f hub.sessions }

abbrev pub in_session : {A Q M S : Type 0} {kind : SessionKind A Q M S} → ℕ → (SessionOf A Q M → SessionOf A Q M) → HubOf kind → HubOf kind
in_session number f hub = record hub { sessions = in_sessions number f hub.sessions }

-- ---- entries

-- an entry goes to the end of the history
abbrev pub with_entry : {A Q M S : Type 0} {kind : SessionKind A Q M S} → Entry → HubOf kind → HubOf kind
with_entry {kind = kind} entry hub = record hub { history = hub.history ++ entry ∷ []; seen = kind.enters entry hub.seen }

-- the keys that it changes
abbrev pub entry_changes : {A Q M S : Type 0} {kind : SessionKind A Q M S} → Entry → HubOf kind → List Changed
entry_changes entry hub = changes (records_now hub) (records_now (with_entry entry hub))

-- an entry is made, and of each session the names that it touches wait
abbrev pub entered : {A Q M S : Type 0} {kind : SessionKind A Q M S} → Entry → HubOf kind → HubOf kind
entered entry hub = each_session (noted (keeps_now hub) (entry_changes entry hub) (newest hub)) (with_entry entry hub)

-- The point from which on a session needs the past, where the entries from there on, with the new one, are too many or too large
-- (this project's own). A session in which no name waits needs none.
abbrev pub behind_at : {A Q M S : Type 0} {kind : SessionKind A Q M S} → HubOf kind → Entry → SessionOf A Q M → Option ℕ
behind_at {kind = kind} hub entry session = elim ((keeps_now hub).least_point session.queue) [
  | None ↦ None
  | Some p ↦ cond (is_open session.standing && not (journal_has_room (kind.since hub.seen p hub.history) (entry_size entry))) (Some p) None
]

abbrev pub ended_behind : {A Q M S : Type 0} {kind : SessionKind A Q M S} → HubOf kind → Entry → SessionOf A Q M → SessionOf A Q M
ended_behind hub entry session = ended_where (keeps_now hub) (option_map (λ p. ends.Behind p) (behind_at hub entry session)) session

-- those that fall behind by an entry end before it is made
abbrev pub ends_behind : {A Q M S : Type 0} {kind : SessionKind A Q M S} → Entry → HubOf kind → HubOf kind
ends_behind entry hub = each_session (ended_behind hub entry) hub

abbrev pub entered_keeping : {A Q M S : Type 0} {kind : SessionKind A Q M S} → Entry → HubOf kind → HubOf kind
entered_keeping entry hub = entered entry (ends_behind entry hub)

-- at the last point nothing is entered any more (this project's own)
abbrev pub can_enter : {A Q M S : Type 0} {kind : SessionKind A Q M S} → HubOf kind → Bool
can_enter hub = nat_lt (newest hub) max_number

-- the RCODE of an update message, and the hub after it (RFC 2136, 3)
abbrev pub update : {A Q M S : Type 0} {kind : SessionKind A Q M S} → HubOf kind → List ℕ → ℕ × HubOf kind
update hub message = elim (verdict (state_now hub) message) [
  | Err code ↦ (code, hub)
  | Ok u ↦ if can_enter hub then (noerror, entered_keeping (entries.Update u) hub) else (servfail, hub)
]

-- the place of a fault; a text's fault is never want of memory, and its line here is for no fault
abbrev pub wire_place : WireFault → ℕ
wire_place (wires.Short p) = p
wire_place (wires.Trailing p) = p
wire_place (wires.Name fault) = place_of fault
wire_place (wires.Rdata p) = p
wire_place wires.NoMemory = 0

-- why a datagram is ignored; here, too, no fault is want of memory
abbrev pub why_not : HearFault → Why
why_not hearfaults.Long = whys.Long
why_not hearfaults.Short = whys.Short
why_not hearfaults.Query = whys.Query
why_not hearfaults.Coded = whys.Coded
why_not (hearfaults.Wire fault) = whys.Unreadable (wire_place fault)
why_not hearfaults.NoMemory = whys.Nothing

-- what becomes of a datagram, and the hub after it
abbrev pub hear : {A Q M S : Type 0} {kind : SessionKind A Q M S} → HubOf kind → ℕ → List ℕ → Heard × HubOf kind
hear hub link datagram = elim (hearing_of datagram) [
  | Err fault ↦ (Ignored (why_not fault), hub)
  | Ok hearing ↦ (let entry = entries.Heard link hearing in
      if not (accepts (state_now hub) entry) then (Ignored whys.Nothing, hub)
      else if can_enter hub then (Entered, entered_keeping entry hub) else (Ignored whys.Last, hub))
]

-- a link goes away: whether its rows went, which is an entry, and the hub after it
abbrev pub link_gone : {A Q M S : Type 0} {kind : SessionKind A Q M S} → HubOf kind → ℕ → Bool × HubOf kind
link_gone hub link = (let entry = entries.LinkGone link in
    if accepts (state_now hub) entry && can_enter hub then (true, entered_keeping entry hub) else (false, hub))

-- the hub at a later moment: the entry is made first, and then sessions end by their timers
abbrev pub moment : {A Q M S : Type 0} {kind : SessionKind A Q M S} → HubOf kind → ℕ → HubOf kind
moment hub t =
    if accepts (state_now hub) (entries.Moment t) && can_enter hub
    then each_session (timed (keeps_now hub) t) (entered_keeping (entries.Moment t) hub) else hub

-- ---- sessions come and go

abbrev pub max_sessions : ℕ
max_sessions = sessions.MAX_SESSIONS

-- the number of a new session, counted from 0; none where too many live or the numbers are used up
abbrev pub connect : {A Q M S : Type 0} {kind : SessionKind A Q M S} → HubOf kind → Option ℕ × HubOf kind
connect hub = if nat_lt (length hub.sessions) max_sessions && nat_lt hub.numbers_given max_number
    then (Some hub.numbers_given, record hub { sessions = hub.sessions ++ (hub.numbers_given, new_session (keeps_now hub) (now hub)) ∷ []; numbers_given = hub.numbers_given + 1 })
    else (None, hub)

-- how many octets of a piece a session takes
abbrev pub taken_by : {A Q M S : Type 0} {kind : SessionKind A Q M S} → HubOf kind → ℕ → List ℕ → ℕ
taken_by hub number piece = elim (session_of hub number) [ None ↦ 0 | Some session ↦ min (length piece) (room_of session) ]

abbrev pub take_octets : {A Q M S : Type 0} {kind : SessionKind A Q M S} → HubOf kind → ℕ → List ℕ → HubOf kind
take_octets hub number piece = in_session number (with_piece piece) hub

abbrev pub stop : {A Q M S : Type 0} {kind : SessionKind A Q M S} → HubOf kind → ℕ → ℕ → ℕ → HubOf kind
stop hub number rcode delay = in_session number (asked_to_stop rcode delay) hub

abbrev pub disconnect : {A Q M S : Type 0} {kind : SessionKind A Q M S} → HubOf kind → ℕ → HubOf kind
disconnect hub number = record hub { sessions = without_session number hub.sessions }
