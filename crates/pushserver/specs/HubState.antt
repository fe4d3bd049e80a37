-- The hub as it is kept, and what its private calls rest on.
--     seen_of past, kept_of keeping      what is known of all entries; the hub that its parts are
--     RisesWaiting sessions, RestsClosed sessions      of each the points rise since which its names wait; none waits of one that is stopped or ended
--     IsSound keeping, IsHub keeping      what holds of them between calls; they stand for a plain hub
--     Gave giving given before after kept      what a call of `give` answered and left
--     IsSeated kept number session state timers rows      the session stands in a hub of such parts
--     IsToJudge number found sessions, IsToReconfirm number rr sessions      an update is to be judged, a record to be reconfirmed
--     Turns      what a session's turn came to
use Rattle.std.specs.Prelude.{◌≡◌, ℕ, ◌≤◌, false, List, [], ◌++◌, drop, map, length, Option, Some, IfSome, ok_or}
use Rattle.std.specs.List.{AllByRecursion}
use Rattle.rrset.specs.RecordSet.{RecordSet}
use Rattle.rrset.specs.Rcodes.{formerr}
use Rattle.rrset.specs.declared.record.Rr.{Rr}
use Rattle.dnswire.specs.declared.message.Update.{Update}
use Rattle.coalesce.specs.Waiting.{CanBePacked}
use Rattle.dsosession.specs.declared.session.Timers.{Timers}
use Rattle.history.specs.Kept as pasts
use Rattle.history.specs.Kept.{Past, point_of}
use Rattle.history.specs.AtHome.{AreAtHome}
use Rattle.history.specs.States.{State, entry_size, max_journal_octets, update_in}
use Rattle.history.specs.declared.entry.Entry.TheVariants as entries
use Rattle.pushsession.specs.Kept.{KeptSession}
use Rattle.pushsession.specs.Sessions.{is_open}
use Rattle.pushsession.specs.Requests.{message_of, request_of}
use Rattle.pushsession.specs.declared.request.Request.TheVariants as requests
use Rattle.pushsession.specs.declared.session_status.SessionStatus.TheVariants.{Live}
use Rattle.livesessions.specs.NumberedSessions.{Numbered, session_in, AreApart, AreBelow, WaitBefore}
use Rattle.pushserver.specs.Hubs.{newest, state_now, records_now, in_session}
use Rattle.pushserver.specs.Giving.{give}
use Rattle.pushserver.specs.PlainHubs.{Hub}
use Rattle.pushserver.specs.KeptHubs.{KeptHub, KeptGiving, Forgets, Seen, StandsFor, WaitSince}
use Rattle.pushserver.specs.Rows.{AreTold}
use Rattle.pushserver.specs.SoundHubs.{PointsRise}
use Rattle.livesessions.specs.Watched.{Watches}
use Rattle.subscr.specs.Watching.{watching_of}
use Rattle.pushserver.specs.declared.given.Given.{Given}
use Rattle.pushserver.specs.declared.hub_state.HubState.{HubState}
use Rattle.pushserver.specs.declared.turning.Turn.{Turn}
use Rattle.pushserver.specs.declared.turning.Turn.TheVariants as turns

-- what is known of all entries
abbrev pub seen_of : Past → Seen
seen_of past = record { state = pasts.state_now past; newest = point_of past; counts = past.counts; number = past.number }

abbrev pub kept_of : HubState → KeptHub
kept_of keeping = record {
  start = keeping.points.past.start;
  timers = keeping.timers;
  history = keeping.points.past.history;
  seen = seen_of keeping.points.past;
  sessions = keeping.sessions;
  numbers_given = keeping.numbers_given;
}

abbrev pub RisesWaiting : Numbered KeptSession → Type 0
RisesWaiting sessions = AllByRecursion (λ e. PointsRise (map (λ w. w.point) e.1.queue)) sessions

abbrev pub RestsClosed : Numbered KeptSession → Type 0
RestsClosed sessions = AllByRecursion (λ e. is_open e.1.standing ≡ false → e.1.queue ≡ []) sessions

-- no number twice, and all were given out; the table has all records, each at home; names wait since points that are kept, each behind
-- those that wait longer, and can be told; none waits of a session that is stopped or has ended; each session watches the names that it
-- asks for
pub record IsSound (keeping : HubState) : Type 0 where
  pub apart : AreApart keeping.sessions
  pub index : keeping.index.rows ≡ records_now (kept_of keeping)
  pub home : AreAtHome (state_now (kept_of keeping))
  pub below : AreBelow keeping.numbers_given keeping.sessions
  pub waiting : WaitBefore (newest (kept_of keeping)) keeping.sessions
  pub since : AllByRecursion (WaitSince keeping.points.past.number) keeping.sessions
  pub rises : RisesWaiting keeping.sessions
  pub rests : RestsClosed keeping.sessions
  pub told : AreTold keeping.index.rows
  pub packable : (number : ℕ) (session : KeptSession) → session_in number keeping.sessions ≡ Some session → CanBePacked keeping.index.rows session.queue
  pub watched : Watches (watching_of keeping.watchers) keeping.sessions

-- the table has all records, each session watches the names that it asks for, and there is a plain hub for which the parts stand
pub record IsHub (keeping : HubState) : Type 0 where
  pub index : keeping.index.rows ≡ records_now (kept_of keeping)
  pub watched : Watches (watching_of keeping.watchers) keeping.sessions
  pub hub : Hub
  pub stands : StandsFor (kept_of keeping) hub

-- what was done, and octets in front of what was there; where an entry was made, some of the oldest may be forgotten
pub record Gave (giving : KeptGiving) (given : Given) (before after : List ℕ) (kept : KeptHub) : Type 0 where
  pub given_is : given ≡ giving.given
  pub octets : after ≡ giving.octets ++ drop (length giving.octets) before
  pub hub : Forgets giving.hub kept

-- the session has this number in a hub of this state, with what is granted, and these records
pub record IsSeated (kept : KeptHub) (number : ℕ) (session : KeptSession) (state : State) (timers : Timers) (rows : RecordSet) : Type 0 where
  pub there : session_in number kept.sessions ≡ Some session
  pub apart : AreApart kept.sessions
  pub state_is : state_now kept ≡ state
  pub timers_is : kept.timers ≡ timers
  pub rows_is : rows ≡ records_now kept

-- the session of this number goes on without output, and its first message is an update that reads so and fits an empty journal
pub record IsToJudge (number : ℕ) (found : Option Update) (sessions : Numbered KeptSession) : Type 0 where
  pub session : KeptSession
  pub there : session_in number sessions ≡ Some session
  pub live : session.standing ≡ Live
  pub silent : session.output ≡ []
  pub request : request_of session ≡ Some requests.Update
  pub reads : update_in (message_of session) ≡ ok_or found formerr
  pub fits : IfSome found (λ update. entry_size (entries.Update update) ≤ max_journal_octets)

-- the same, and its first message reconfirms this record
pub record IsToReconfirm (number : ℕ) (rr : Rr) (sessions : Numbered KeptSession) : Type 0 where
  pub session : KeptSession
  pub there : session_in number sessions ≡ Some session
  pub live : session.standing ≡ Live
  pub silent : session.output ≡ []
  pub request : request_of session ≡ Some (requests.Reconfirm (Some rr))

-- what the call gives, with the session as it is then; or the session is as before, and an update is to be judged, or a record to be reconfirmed
abbrev pub Turns : KeptHub → ℕ → Turn → List ℕ → List ℕ → KeptSession → KeptSession → Type 0
Turns kept number (turns.Did given) octets octets_now session session_now = Gave (give kept number (length octets)) given octets octets_now (in_session number (λ _. session_now) kept)
Turns kept number (turns.Judge found) octets octets_now session session_now = (octets_now ≡ octets) × (session_now ≡ session) × IsToJudge number found kept.sessions
Turns kept number (turns.Reconfirm rr) octets octets_now session session_now = (octets_now ≡ octets) × (session_now ≡ session) × IsToReconfirm number rr kept.sessions
