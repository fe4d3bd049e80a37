-- Calls for others leave a seat as it stands.
--     ends-so-asked      a session that has ended did so by itself, where a stop is asked for
--     joined-along      a seat that is joined to its session is so behind any calls for others
--     others-leave-seats
use Rattle.std.proofs.Common.{◌≡◌, ℕ, ◌+◌, ◌≤◌, Bool, true, false, cond, List, [], ◌∷◌, length, Option, Some, None, sym, ◌∙◌, ap, subst, refl}
use Rattle.std.specs.Prelude.{IsTrue}
use Rattle.std.specs.List.{AllByRecursion}
use Rattle.std.proofs.Math.Nat.{le_trans}
use Rattle.dsotlv.specs.Answers.{stop_message}
use Rattle.dsosession.specs.declared.session.CloseReason.{CloseReason}
use Rattle.dsosession.specs.declared.session.CloseReason.TheVariants as closes
use Rattle.dsosession.specs.declared.session.EndReason.{EndReason}
use Rattle.pushsession.specs.declared.session_status.SessionStatus.{SessionStatus}
use Rattle.pushsession.specs.declared.session_status.SessionStatus.TheVariants.{AskedToStop, Ended}
use Rattle.pushsession.specs.Sessions.{is_open, asked_to_stop, ended_with}
use Rattle.pushserver.specs.Calls.{HubCall, called, after_calls}
use Rattle.pushserver.specs.Hubs.{newest, session_of}
use Rattle.pushserver.specs.PlainHubs.{Hub, Session, Made, plain_keeps, size_of_made}
use Rattle.pushserver.proofs.hub_steps.Pairs.{all-weaken}
use Rattle.pushtelling.proofs.Closed.{closed-asked}
use Rattle.pushclient.specs.Clients.{Connection}
use Rattle.inflight.specs.Flight.{IsUnderWay}
use Rattle.flight_laws.specs.OtherCalls.{IsOfOthers}
use Rattle.flight_laws.proofs.OtherSteps.{other-calls-leave}
use Rattle.flight_laws.proofs.TakesNothing.{others-take-nothing}
use Rattle.replay.specs.World.{Seat}
use Rattle.replay.specs.Promises.{EndedByItself, ShownPoints, ShowsNoLater, point_taken, is_end_by_itself, IsUnconnected}
use Rattle.script_laws.specs.Reached.{FitsCall, FitCalls, IsReached, Avoids}
use Rattle.script_laws.specs.Joined.{IsJoined, StandsWith, ClosedByDelay}
use Rattle.script_laws.specs.Walk.{OthersLeaveSeats}
use Rattle.script_laws.proofs.hubs.OtherCalls.{others-keep}
use Rattle.script_laws.proofs.hubs.Reaching.{reached-go-on, begun-go-on, points-rise}
use Rattle.script_laws.proofs.hubs.Sessions.{reached-below}

-- ---- how a session ends, and what closed its client

pub ends-so-asked : (rcode delay : ℕ) (session : Session) → EndedByItself session.standing → EndedByItself (asked_to_stop rcode delay session).standing
ends-so-asked rcode delay session h = by (is_open session.standing)
  where
    by : (b : Bool) → EndedByItself (cond b (record session { standing = AskedToStop rcode delay }) session).standing
    by true = tt
    by false = h

-- a session that doesn't go on stays so
pub closed-so : (closed : Option CloseReason) (before after : SessionStatus) → (is_open before ≡ false → is_open after ≡ false) → ClosedByDelay before closed → ClosedByDelay after closed
closed-so None before after stays h = tt
closed-so (Some (closes.Delay ms rcode)) before after stays h = stays h
closed-so (Some _) before after stays h = absurd h

-- ---- a seat that is joined to its session

abbrev IsNoStop : Made → Type 0
IsNoStop m = (rcode delay : ℕ) → m.message ≡ stop_message rcode delay → ⊥

module _ (shown : ShownPoints) (seat : Seat) (number : ℕ) (c : Connection) where
  abbrev Joined : Hub → Type 0
  Joined hub = (session : Session) × IsJoined hub shown seat number session c

  -- if it has ended, then by itself, and the client closed only where it doesn't go on
  abbrev IsSo : Session → Type 0
  IsSo session = EndedByItself session.standing × ClosedByDelay session.standing c.closed

  so-ended : (point : ℕ) (reason : EndReason) (session : Session) → IsTrue (is_end_by_itself reason) → IsSo session → IsSo (ended_with (plain_keeps point) reason session)
  so-ended point reason session own so = (own, closed-so c.closed session.standing (Ended reason) (λ closed. refl) so.1)

  so-asked : (rcode delay : ℕ) (session : Session) → IsSo session → IsSo (asked_to_stop rcode delay session)
  so-asked rcode delay session so = (ends-so-asked rcode delay session so.0, closed-so c.closed session.standing (asked_to_stop rcode delay session).standing (closed-asked rcode delay session) so.1)

  module _ (hub : Hub) (call : HubCall) (reached : IsReached hub) (fit : FitsCall call) (other : IsOfOthers number call) (session : Session) (j : IsJoined hub shown seat number session c) where
    -- the one that is found is this one
    later-so : (later : Session) → session_of (called call hub) number ≡ Some later → IsSo later
    later-so later there =
        let kept = others-keep number IsSo (λ s queue so. so) so-ended so-asked hub call other (session, j.there, (j.ended, j.closed)) in
        let both : Some kept.0 ≡ Some later = sym kept.1 ∙ there in
        let same : kept.0 ≡ later = cc in
        subst IsSo same kept.2

    later-joined : (later : Session) (there : session_of (called call hub) number ≡ Some later) → IsUnderWay (called call hub) seat.filled later seat.client c seat.up_wire seat.down_wire → Joined (called call hub)
    later-joined later there flight =
        let below = reached-below hub number session reached j.there in
        let taken : flight.taken ≡ j.flight.taken = others-take-nothing hub call number seat.filled session later seat.client c seat.up_wire seat.down_wire other below j.there there j.flight flight in
        let so = later-so later there in (
          later,
          record {
            there = there;
            connected = j.connected;
            flight = flight;
            reached = j.reached ∙ ap (λ (ms : List Made). size_of_made ms + length c.input) (sym taken);
            up_wire = j.up_wire;
            down_wire = j.down_wire;
            input = j.input;
            octets = j.octets;
            ended = so.0;
            closed = so.1;
            unstopped = λ unclosed. subst (AllByRecursion IsNoStop) (sym taken) (j.unstopped unclosed);
            start = j.start;
            began = begun-go-on hub number j.start (call ∷ []) j.began (fit, tt);
            shown_before = subst (λ (ms : List Made). ShowsNoLater shown (point_taken j.start ms)) (sym taken) j.shown_before;
          },
        )

    joined-behind : Joined (called call hub)
    joined-behind =
        let left = other-calls-leave hub call number seat.filled session seat.client c seat.up_wire seat.down_wire other j.there j.flight in
        later-joined left.0 left.1 left.2

  pub joined-along : (calls : List HubCall) (hub : Hub) → IsReached hub → FitCalls calls → AllByRecursion (IsOfOthers number) calls → Joined hub → Joined (after_calls calls hub)
  joined-along [] hub reached fit others joined = joined
  joined-along (call ∷ calls) hub reached fit others (session, j) =
      joined-along calls (called call hub) (reached-go-on hub (call ∷ []) reached (fit.0, tt)) fit.1 others.1 (joined-behind hub call reached fit.0 others.0 session j)

-- ---- each seat

-- one without a session: the newest point rises
pub alone-later : (hub later : Hub) (shown : ShownPoints) (seat : Seat) → newest hub ≤ newest later → IsUnconnected hub shown seat → IsUnconnected later shown seat
alone-later hub later shown seat more u = record {
  client = u.client;
  wishes = u.wishes;
  up_wire = u.up_wire;
  down_wire = u.down_wire;
  reached = u.reached;
  filled = u.filled;
  shown_before = λ question. all-weaken (λ (p : ℕ). p ≤ newest hub) (λ (p : ℕ). p ≤ newest later) (λ p low. le_trans low more) (shown question) (u.shown_before question);
}

abbrev StandsAs : ShownPoints → Seat → Hub → Option ℕ → Type 0
StandsAs shown seat hub o = elim o as (λ _. Type 0) [ None ↦ IsUnconnected hub shown seat | Some number ↦ StandsWith hub shown seat number ]

pub others-leave-seats : OthersLeaveSeats
others-leave-seats hub shown seat calls reached fit avoids stands = by seat.session avoids stands
  where
    later : Hub
    later = after_calls calls hub

    by : (o : Option ℕ) → Avoids o calls → StandsAs shown seat hub o → StandsAs shown seat later o
    by None avoids u = alone-later hub later shown seat (points-rise hub calls) u
    by (Some number) avoids s =
        let joined = joined-along shown seat number s.connection calls hub reached fit avoids (s.session, s.joined) in
        record { lone = s.lone; session = joined.0; connection = s.connection; joined = joined.1; waits = s.waits; unclosed = s.unclosed }
