-- A kept session stands for the plain one, which is sound, part by part, and a step changes some of the parts.
--     SessionFits      it stands for it, and that one is sound
--     SessionKeeps hub f g      a step of the kept session is this step of the plain one
--     Rests standing plain      a stopped or ended session asks nothing
--     asks, waits, reads, writes      the parts of a session that stands for another
--     kept_asked      its questions are such as a session may ask
--     of_parts, stands      a session of which each part does; in place of one that does
use Rattle.std.proofs.Common.{◌≡◌, ℕ, ◌<◌, ◌≤◌, false, List, [], map, length, min, refl, sym, subst, arith}
use Rattle.std.specs.List.{AllByRecursion, IsDistinct}
use Rattle.push_base.specs.Limits.{max_input, max_number}
use Rattle.std.proofs.lemmas.List.Elements.{All-nil}
use Rattle.dnsname.specs.Names.{same_name}
use Rattle.rrset.proofs.Distinct.{distinct_none}
use Rattle.dsotlv.specs.Laws.{AreOctets}
use Rattle.subscr.specs.Asked.{Asked, AreAsked}
use Rattle.subscr.proofs.Asking.{none_asked}
use Rattle.coalesce.specs.Sides.{frame_octets}
use Rattle.coalesce.specs.Waiting.{WaitingName}
use Rattle.history.specs.States.{State}
use Rattle.history.specs.declared.entry.Entry.{Entry}
use Rattle.pushsession.specs.Sessions.{is_open}
use Rattle.pushsession.specs.declared.session_status.SessionStatus.{SessionStatus}
use Rattle.pushsession.specs.Kept.{KeptSession, KeptQuestions}
use Rattle.pushserver.specs.PlainHubs.{Hub, Session, Subscription, Queue, Made, size_of_made, asked_of}
use Rattle.pushserver.specs.Hubs.{state_now}
use Rattle.pushserver.specs.KeptHubs.{KeepsSent, SessionStandsFor, filled_kept, queue_of}
use Rattle.pushserver.specs.SoundHubs.{ArePast, PointsRise, AreWatched, HasHome, IsSoundSession}

pub record SessionFits (hub : Hub) (kept : ℕ × KeptSession) (plain : ℕ × Session) : Type 0 where
  pub stands : SessionStandsFor hub kept plain
  pub sound : IsSoundSession hub plain

abbrev pub SessionKeeps : Hub → (KeptSession → KeptSession) → (Session → Session) → Type 0
SessionKeeps hub f g = (k : ℕ × KeptSession) (p : ℕ × Session) → SessionFits hub k p → SessionFits hub (k.0, f k.1) (p.0, g p.1)

-- the questions with their IDs
pub record Asks (state : State) (kept : KeptQuestions) (plain : List Subscription) : Type 0 where
  pub asked : kept.asked ≡ asked_of plain
  pub filled : kept.filled ≡ filled_kept plain
  pub are_asked : AreAsked (asked_of plain)
  pub homes : AllByRecursion (HasHome state) plain

-- the names that wait, where a session asks so
pub record Waits (start : State) (history : List Entry) (asked : Asked) (kept : List WaitingName) (plain : Queue) : Type 0 where
  pub queue : queue_of kept ≡ plain
  pub keeps : AllByRecursion (KeepsSent start history asked) kept
  pub points : ArePast (length history) plain
  pub rises : PointsRise (map (λ e. e.1) plain)
  pub names : IsDistinct (λ d e. same_name e.0 d.0) plain

-- a stopped or ended session asks nothing
abbrev pub Rests : SessionStatus → List Subscription → Type 0
Rests standing plain = is_open standing ≡ false → plain ≡ []

-- the octets that came
pub record Reads (kept plain : List ℕ) : Type 0 where
  pub input : kept ≡ plain
  pub octets : AreOctets plain
  pub fits : length plain ≤ max_input

-- the octets that are written, and how many ever were
pub record Writes (kept plain : List ℕ) (count : ℕ) (made : List Made) : Type 0 where
  pub output : kept ≡ plain
  pub counted : count ≡ min (size_of_made made) max_number
  pub fits : length plain ≤ frame_octets

-- a pair of sessions whose parts stand for each other
pub of_parts : (hub : Hub) (k : ℕ × KeptSession) (p : ℕ × Session) → k.0 ≡ p.0 → p.0 < hub.numbers_given → Asks (state_now hub) k.1.subscriptions p.1.subscriptions → Waits hub.start hub.history k.1.subscriptions.asked k.1.queue p.1.queue → AreWatched p.1.subscriptions p.1.queue
    → Reads k.1.input p.1.input → Writes k.1.output p.1.output k.1.made p.1.made
    → k.1.clocks ≡ p.1.clocks → k.1.established ≡ p.1.established → k.1.standing ≡ p.1.standing → Rests p.1.standing p.1.subscriptions → SessionFits hub k p
of_parts hub k p number below a w watched r o clocks established standing rests = record {
  stands = record {
    number = number;
    asked = a.asked;
    filled = a.filled;
    queue = w.queue;
    keeps = w.keeps;
    clocks = clocks;
    established = established;
    standing = standing;
    input = r.input;
    output = o.output;
    written = o.counted;
  };
  sound = record {
    below = below;
    points = w.points;
    rises = w.rises;
    names = w.names;
    watched = watched;
    rests = rests;
    asked = a.are_asked;
    homes = a.homes;
    octets = r.octets;
    input_fits = r.fits;
    output_fits = o.fits;
  };
}

module _ (hub : Hub) (k : ℕ × KeptSession) (p : ℕ × Session) (s : SessionFits hub k p) where
  pub asks : Asks (state_now hub) k.1.subscriptions p.1.subscriptions
  asks = record { asked = s.stands.asked; filled = s.stands.filled; are_asked = s.sound.asked; homes = s.sound.homes }

  -- what is kept is asked as a session may
  pub kept_asked : AreAsked k.1.subscriptions.asked
  kept_asked = subst AreAsked (sym s.stands.asked) s.sound.asked

  pub waits : Waits hub.start hub.history k.1.subscriptions.asked k.1.queue p.1.queue
  waits = record { queue = s.stands.queue; keeps = s.stands.keeps; points = s.sound.points; rises = s.sound.rises; names = s.sound.names }

  pub reads : Reads k.1.input p.1.input
  reads = record { input = s.stands.input; octets = s.sound.octets; fits = s.sound.input_fits }

  pub writes : Writes k.1.output p.1.output k.1.made p.1.made
  writes = record { output = s.stands.output; counted = s.stands.written; fits = s.sound.output_fits }

  -- another pair of sessions under the same numbers
  pub stands : (kept : KeptSession) (plain : Session) → Asks (state_now hub) kept.subscriptions plain.subscriptions → Waits hub.start hub.history kept.subscriptions.asked kept.queue plain.queue → AreWatched plain.subscriptions plain.queue
      → Reads kept.input plain.input → Writes kept.output plain.output kept.made plain.made
      → kept.clocks ≡ plain.clocks → kept.established ≡ plain.established → kept.standing ≡ plain.standing → Rests plain.standing plain.subscriptions → SessionFits hub (k.0, kept) (p.0, plain)
  stands kept plain = of_parts hub (k.0, kept) (p.0, plain) s.stands.number s.sound.below

pub asks_nothing : {state : State} → Asks state (record { asked = []; filled = [] }) []
asks_nothing = record { asked = refl; filled = refl; are_asked = none_asked; homes = tt }

pub none_waits : {start : State} {history : List Entry} {asked : Asked} → Waits start history asked [] []
none_waits = record { queue = refl; keeps = tt; points = tt; rises = tt; names = distinct_none _ }

pub reads_nothing : Reads [] []
reads_nothing = record { input = refl; octets = All-nil (λ o. o < 256); fits = omega arith }

pub writes_nothing : Writes [] [] 0 []
writes_nothing = record { output = refl; counted = refl; fits = omega arith }
