-- An entry is made; the session is asked to stop, or ends.
use Rattle.std.proofs.Common.{◌≡◌, ℕ, Bool, true, false, cond, List, sym, subst, refl, true≢false}
use Rattle.dsosession.specs.declared.session.EndReason.{EndReason}
use Rattle.pushsession.specs.declared.session_status.SessionStatus.TheVariants.{AskedToStop}
use Rattle.pushsession.specs.Sessions.{is_open, ended_with}
use Rattle.pushserver.specs.Hubs.{keeps_now}
use Rattle.pushserver.specs.PlainHubs.{Session, Hub}
use Rattle.pushclient.specs.Clients.{Client, Connection}
use Rattle.inflight.specs.Ends.{BothEnds, ends_of}
use Rattle.inflight.specs.Flight.{IsSoundClient, Downward, InFlight}
use Rattle.flight_laws.specs.Laws.{EntriesLeaveIt, SessionsEnd, StopsAreAskedFor}

-- neither the history nor the names that wait are known at both ends
pub entries-leave : EntriesLeaveIt
entries-leave hub entry changed point told session client c up_wire down_wire i = i

module _ (hub : Hub) (reason : EndReason) (told : List (ℕ × ℕ)) (session : Session) (client : Client) (c : Connection) (up down : List ℕ)
    (i : InFlight (ends_of hub told session client c) up down) where
  abbrev later : BothEnds
  later = ends_of hub told (ended_with (keeps_now hub) reason session) client c

  ended-client : IsSoundClient later
  ended-client = (let s = i.fit.client in record { wishes = s.wishes; ids = s.ids; distinct = s.distinct; last = s.last; asked = s.asked; begun = s.begun })

  ended-down : Downward later i.taken i.flying
  ended-down = (let d = i.fit.down in record {
    readable = d.readable;
    fits = d.fits;
    awaited = d.awaited;
    notices = d.notices;
    seen = d.seen;
    told = tt;
    homeless = d.homeless;
    established = d.established;
    speaks = d.speaks;
    first = d.first;
  })

  ended : InFlight later up down
  ended = record {
    taken = i.taken;
    flying = i.flying;
    ups = i.ups;
    made = i.made;
    whole_down = i.whole_down;
    whole_up = λ goes_on. absurd (true≢false (sym goes_on));
    fit = record { timers = i.fit.timers; client = ended-client; down = ended-down; up = λ goes_on. absurd (true≢false (sym goes_on)) };
  }

-- what is said of what goes up goes with the session
pub sessions-end : SessionsEnd
sessions-end hub reason told session client c up down i = ended hub reason told session client c up down i

-- a session that is asked to stop goes on until it says so
asked : (hub : Hub) (rcode delay : ℕ) (told : List (ℕ × ℕ)) (session : Session) (client : Client) (c : Connection) (up down : List ℕ) (b : Bool) → is_open session.standing ≡ b
    → InFlight (ends_of hub told session client c) up down → InFlight (ends_of hub told (cond b (record session { standing = AskedToStop rcode delay }) session) client c) up down
asked hub rcode delay told session client c up down true is i = subst (λ g. InFlight (record (ends_of hub told session client c) { goes_on = g }) up down) is i
asked hub rcode delay told session client c up down false is i = i

pub stops-asked : StopsAreAskedFor
stops-asked hub rcode delay told session client c up down i = asked hub rcode delay told session client c up down (is_open session.standing) refl i
