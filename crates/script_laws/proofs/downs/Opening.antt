-- A client without a connection is connected to a new session of the hub, and joined to it.
--     timers-granted      the timers of a hub can be granted
--     new-ones-joined
use Rattle.std.proofs.Common.{◌≡◌, ℕ, ◌+◌, ◌≤◌, Bool, true, false, not, ◌&&◌, cond, List, [], ◌∷◌, ◌++◌, length, Option, Some, None, sym, ap, ◌∙◌, subst, refl, arith}
use Rattle.std.specs.Prelude.{nat_lt, ◌==◌, if◌then◌else◌}
use Rattle.std.specs.List.{AllByRecursion}
use Rattle.std.specs.Option.{option_or}
use Rattle.push_base.specs.Limits.{max_number, max_input}
use Rattle.dsotlv.specs.Laws.{AreOctets}
use Rattle.dsotlv.specs.Messages.{first_message}
use Rattle.dsosession.specs.declared.session.Timers.{Timers}
use Rattle.pushsession.specs.Sessions.{new_session}
use Rattle.pushserver.specs.PlainHubs.{Hub, Session, new_hub, size_of_made}
use Rattle.pushserver.specs.Hubs.{newest, now, keeps_now, session_of, max_sessions, connect}
use Rattle.pushserver.specs.Calls.{connects}
use Rattle.livesessions.proofs.SessionLists.{found-last, number-itself}
use Rattle.pushserver.proofs.Walks.{AnyMessage, IsKept, bring_any, keeps-calls, with_new}
use Rattle.pushclient.specs.Clients.{Client, connected, wanted_questions}
use Rattle.pushclient.specs.ServerMessages.{CanBeGranted}
use Rattle.pushclient.proofs.SoundWishes.{some_is}
use Rattle.inflight.specs.Messages.{flying_octets}
use Rattle.inflight.specs.Flight.{AreSoundWishes}
use Rattle.flight_laws.specs.Taking.{Opens}
use Rattle.flight_laws.proofs.Opening.{connections-open}
use Rattle.replay.specs.World.{Seat}
use Rattle.replay.specs.Promises.{ShownPoints, ShowsNoLater, IsUnconnected, point_taken}
use Rattle.script_laws.specs.Reached.{IsReached, ReachedSessions}
use Rattle.script_laws.specs.Joined.{ClosedByDelay, IsJoined, StandsWith}
use Rattle.script_laws.specs.Walk.{NewOnesAreJoined}
use Rattle.script_laws.proofs.downs.Octets.{octets-written, opened-octets}
use Rattle.script_laws.proofs.downs.Wishes.{few-wanted, wanted-differ, wanted-fit}
use Rattle.script_laws.proofs.downs.Stops.{IsNoStop}

-- ---- the timers

timers-kept : (timers : Timers) → IsKept AnyMessage (λ (hub : Hub). hub.timers ≡ timers)
timers-kept timers = record {
  reads = λ hub number session found there is h. tt;
  takes_up = λ hub number session found there is h. h;
  changes = λ hub number f step h. h;
  enters = λ hub entry by h. h;
  ends = λ hub point reason h. h;
  takes_in = λ hub number piece any h. h;
  asks_stop = λ hub number rcode delay h. h;
  makes = λ hub h. h;
  drops = λ hub number h. h;
}

pub timers-granted : (hub : Hub) → IsReached hub → CanBeGranted hub.timers
timers-granted hub reached =
    let same = keeps-calls AnyMessage (λ (h : Hub). h.timers ≡ reached.timers) (timers-kept reached.timers) reached.calls (new_hub reached.start reached.timers) (bring_any reached.calls) refl in
    subst CanBeGranted (sym (ap (λ (h : Hub). h.timers) reached.is ∙ same)) reached.granted

-- ---- a new session

-- nothing is under way down, so nothing waits at the client
front-none : (front behind : List ℕ) → front ++ behind ≡ [] → front ≡ []
front-none [] behind none = refl
front-none (o ∷ os) behind none = absurd cc

module _ (sessions : ReachedSessions) (hub : Hub) (shown : ShownPoints) (seat : Seat) (reached : IsReached hub) (lone : seat.is_lone ≡ false) (alone : IsUnconnected hub shown seat) where
  abbrev opened : Client
  opened = connected (now hub) seat.client

  abbrev later : ℕ → Seat
  later number = record seat { client = opened; session = Some number }

  abbrev session : Session
  session = new_session (keeps_now hub) (now hub)

  -- the number that is given next is no session's
  fresh : session_of hub hub.numbers_given ≡ None
  fresh = by (session_of hub hub.numbers_given) refl
    where
      by : (o : Option Session) → session_of hub hub.numbers_given ≡ o → o ≡ None
      by None is = refl
      by (Some s) is = absurd (omega (arith, (sessions hub hub.numbers_given s reached is).below))

  there : session_of (with_new hub) hub.numbers_given ≡ Some session
  there =
      let number = hub.numbers_given in
      found-last number hub.sessions (number, session) ∙ ap (λ (o : Option Session). option_or o (cond (number == number) (Some session) None)) fresh ∙ ap (λ (b : Bool). cond {A = Option Session} b (Some session) None) (number-itself number)

  sound : AreSoundWishes seat.client.wishes
  sound = alone.wishes (ap not lone)

  opens : Opens hub (now hub) opened (wanted_questions seat.client)
  opens = connections-open hub (now hub) (now hub) seat.client (timers-granted hub reached) (few-wanted seat.client sound) (wanted-differ seat.client sound) (wanted-fit seat.client sound)

  input-none : opens.connection.input ≡ []
  input-none = front-none opens.connection.input ([] ++ []) (opens.after.whole_down ∙ ap (flying_octets hub.timers) opens.flying)

  module _ (made : (connect hub).1 ≡ with_new hub) where
    -- with nothing on the wires, and nothing told
    joined-bare : IsJoined (with_new hub) shown (record (later hub.numbers_given) { filled = []; up_wire = []; down_wire = []; reached = 0 }) hub.numbers_given session opens.connection
    joined-bare = record {
      there = there;
      connected = opens.there;
      flight = opens.after;
      reached = (λ i. size_of_made (sym opens.taken i) + length (sym input-none i));
      up_wire = omega arith;
      down_wire = omega arith;
      input = subst (λ os. length os ≤ max_input) (sym input-none) (omega arith);
      octets = subst AreOctets (sym opens.output) (octets-written opens.after.ups (opened-octets opens.after.ups (wanted_questions seat.client) opens.asked (wanted-fit seat.client sound)));
      ended = tt;
      closed = subst (ClosedByDelay session.standing) (sym opens.closed) tt;
      unstopped = λ still. subst (AllByRecursion IsNoStop) (sym opens.taken) tt;
      start = newest hub;
      began = record { first = hub; calls = connects ∷ []; reached = reached; fit = ((tt, tt), tt); fresh = fresh; newest_then = refl; is = sym made };
      shown_before = subst (λ taken. ShowsNoLater shown (point_taken (newest hub) taken)) (sym opens.taken) alone.shown_before;
    }

    joined : IsJoined (with_new hub) shown (later hub.numbers_given) hub.numbers_given session opens.connection
    joined = subst (λ (x : List (ℕ × ℕ) × List ℕ × List ℕ × ℕ). IsJoined (with_new hub) shown (record (later hub.numbers_given) { filled = x.0; up_wire = x.1; down_wire = x.2; reached = x.3 }) hub.numbers_given session opens.connection)
        (λ i. (sym alone.filled i, sym alone.up_wire i, sym alone.down_wire i, sym alone.reached i)) joined-bare

    stands : StandsWith (with_new hub) shown (later hub.numbers_given) hub.numbers_given
    stands = record {
      lone = lone;
      session = session;
      connection = opens.connection;
      joined = joined;
      waits = ap first_message input-none;
      unclosed = opens.closed;
    }

  abbrev connect_as : Bool → Option ℕ × Hub
  connect_as b = if b then (Some hub.numbers_given, with_new hub) else (None, hub)

  stands-behind : (number : ℕ) (b : Bool) → (nat_lt (length hub.sessions) max_sessions && nat_lt hub.numbers_given max_number) ≡ b → (connect_as b).0 ≡ Some number → StandsWith (connect hub).1 shown (later number) number
  stands-behind number true is given =
      let made : (connect hub).1 ≡ with_new hub = ap (λ (b : Bool). (connect_as b).1) is in
      subst (λ n. StandsWith (connect hub).1 shown (later n) n) (some_is hub.numbers_given number given)
      (subst (λ (h : Hub). StandsWith h shown (later hub.numbers_given) hub.numbers_given) (sym made) (stands made))
  stands-behind number false is given = absurd cc

pub new-ones-joined : ReachedSessions → NewOnesAreJoined
new-ones-joined sessions hub shown seat number reached lone alone given = stands-behind sessions hub shown seat reached lone alone number (nat_lt (length hub.sessions) max_sessions && nat_lt hub.numbers_given max_number) refl given
