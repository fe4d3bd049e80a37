-- What the server keeps, and the plain hub that it stands for.
--     kept, KeptHub, new_kept      its sessions as they are kept; the hub; that before any entry
--     Seen, past_of      what the hub knows of all entries; what it keeps of them
--     forgetting count hub      the oldest entries are forgotten
--     WaitSince number e      the names of a session that wait do so since points that are kept
--     Forgets hub new      some entries may be forgotten that nobody needs
--     KeepsSent start history asked w      what counts as sent of a name that waits is told by old values and the records now
--     StandsFor kept hub      what is kept is what the plain hub's history tells
use Rattle.std.specs.Prelude.{◌≡◌, ℕ, ◌+◌, ◌-◌, ◌<◌, ◌≤◌, true, List, [], map, drop, length, min, IsTrue, IfSome}
use Rattle.std.specs.List.{AllByRecursion, AllZip}
use Rattle.push_base.specs.Limits.{max_number}
use Rattle.dnsname.specs.Names.{Labels, same_name}
use Rattle.rrset.specs.KeyedRows.{is_rising}
use Rattle.rrset.specs.RecordSet.{only, at_name, shows_its_key}
use Rattle.rrset.specs.declared.record.Key.{Key}
use Rattle.subscr.specs.Asked.{Asked, wants}
use Rattle.coalesce.specs.Waiting.{WaitingName, OldValue, old_side}
use Rattle.history.specs.Kept.{Past, IsPastOf}
use Rattle.history.specs.Totals.{totals, and_one}
use Rattle.history.specs.declared.entry.Entry.{Entry}
use Rattle.history.specs.declared.entry.Totals.{Totals}
use Rattle.history.specs.States.{State, state_at, records_at, records, after}
use Rattle.pushsession.specs.Kept.{KeptSession, KeptQuestions, Filled, keeping, telling}
use Rattle.pushserver.specs.PlainHubs.{Hub, Session, Subscription, Queue, written, asked_of}
use Rattle.pushserver.specs.SoundHubs.{IsSoundHub}
use Rattle.dsosession.specs.declared.session.Timers.{Timers}
use Rattle.pushserver.specs.Hubs.{SessionKind, HubOf, empty_hub, newest, state_now}
use Rattle.pushserver.specs.Rows.{is_tellable}
use Rattle.pushserver.specs.Giving.{GivingOf}

-- the state after all entries and how many there ever were, also in each group; and the number of the first state that is kept
pub record Seen : Type 0 where
  pub state : State
  pub newest : ℕ
  pub counts : Totals
  pub number : ℕ

-- what is kept of its sessions, what is told to them, and what is kept of the history
abbrev pub kept : SessionKind KeptQuestions (List WaitingName) ℕ Seen
kept = record {
  keeps = λ newest. keeping;
  tells = λ seen start history. telling (records seen.state);
  state = λ seen start history. seen.state;
  newest = λ seen history. seen.newest;
  since = λ seen point history. drop (point - seen.number) history;
  enters = λ entry seen. record seen { state = after seen.state entry; newest = seen.newest + 1; counts = and_one entry seen.counts };
}

abbrev pub KeptHub : Type 0
KeptHub = HubOf kept

abbrev pub KeptGiving : Type 0
KeptGiving = GivingOf kept

-- before any entry
abbrev pub new_kept : State → Timers → KeptHub
new_kept start timers = empty_hub kept (record { state = start; newest = 0; counts = totals []; number = 0 }) start timers

-- what is kept of the history
abbrev pub past_of : KeptHub → Past
past_of hub = record { start = hub.start; number = hub.seen.number; history = hub.history; counts = hub.seen.counts }

-- so many of the oldest entries are forgotten
abbrev pub forgetting : ℕ → KeptHub → KeptHub
forgetting count hub = record hub { start = state_at hub.start hub.history count; history = drop count hub.history; seen = record hub.seen { number = hub.seen.number + count } }

-- the names of a session that wait do so since points that are kept
abbrev pub WaitSince : ℕ → ℕ × KeptSession → Type 0
WaitSince number e = AllByRecursion (λ w. number ≤ w.point) e.1.queue

-- the hub is this one, of which some of the oldest entries may be forgotten: none that it hasn't, and none behind a point since which a name waits
pub record Forgets (hub new : KeptHub) : Type 0 where
  pub count : ℕ
  pub is : new ≡ forgetting count hub
  pub within : 0 < count → hub.seen.number + count ≤ hub.seen.newest
  pub since : 0 < count → AllByRecursion (WaitSince (hub.seen.number + count)) hub.sessions

-- octets are counted up to the last number
abbrev pub filled_kept : List Subscription → Filled
filled_kept subscriptions = map (λ s. (s.id, min s.filled max_number)) subscriptions

-- the names that wait with their points
abbrev pub queue_of : List WaitingName → Queue
queue_of waiting = map (λ w. (w.name, w.point)) waiting

-- a key was shown so at its name, and could be told
abbrev pub IsOldOf : Labels → Key × OldValue → Type 0
IsOldOf name e = (same_name name e.0.owner ≡ true) × IfSome e.1.before (λ shown. IsTrue (is_tellable (e.0, shown)) × IsTrue (shows_its_key (e.0, shown)))

-- What is kept of a name that waits: old values in key order, by which its records now become, as the questions ask for them,
-- those that it had at its point. Of keys that no question asks for nothing is said.
pub record KeepsSent (start : State) (history : List Entry) (asked : Asked) (w : WaitingName) : Type 0 where
  pub rising : is_rising w.values ≡ true
  pub values : AllByRecursion (IsOldOf w.name) w.values
  pub older : AllByRecursion (λ e. e.1.point < length history) w.values
  pub sent : old_side asked (records_at start history (length history)) w ≡ only (λ key. wants key asked) (at_name w.name (records_at start history w.point))

-- a session is kept as the plain one
pub record SessionStandsFor (hub : Hub) (kept : ℕ × KeptSession) (plain : ℕ × Session) : Type 0 where
  pub number : kept.0 ≡ plain.0
  pub asked : kept.1.subscriptions.asked ≡ asked_of plain.1.subscriptions
  pub filled : kept.1.subscriptions.filled ≡ filled_kept plain.1.subscriptions
  pub queue : queue_of kept.1.queue ≡ plain.1.queue
  pub keeps : AllByRecursion (KeepsSent hub.start hub.history kept.1.subscriptions.asked) kept.1.queue
  pub clocks : kept.1.clocks ≡ plain.1.clocks
  pub established : kept.1.established ≡ plain.1.established
  pub standing : kept.1.standing ≡ plain.1.standing
  pub input : kept.1.input ≡ plain.1.input
  pub output : kept.1.output ≡ plain.1.output
  pub written : kept.1.made ≡ min (written plain.1) max_number

-- the plain hub is sound, what is kept of the history is its history's, and each session is kept as its own
pub record StandsFor (kept : KeptHub) (hub : Hub) : Type 0 where
  pub sound : IsSoundHub hub
  pub timers : kept.timers ≡ hub.timers
  pub numbers_given : kept.numbers_given ≡ hub.numbers_given
  pub past : IsPastOf hub.start hub.history (past_of kept)
  pub state : kept.seen.state ≡ state_now hub
  pub newest : kept.seen.newest ≡ newest hub
  pub since : AllByRecursion (WaitSince kept.seen.number) kept.sessions
  pub sessions : AllZip (SessionStandsFor hub) kept.sessions hub.sessions
