-- A walk over the calls by which no session comes or goes and no stop is asked for.
--     IsInside call      it is one of them
--     IsKeptInside P      their steps keep P
--     keeps-inside      so each of them keeps it
use Rattle.std.proofs.Common.{ℕ, List, Option}
use Rattle.dsosession.specs.declared.session.EndReason.{EndReason}
use Rattle.history.specs.declared.entry.Entry.{Entry}
use Rattle.pushsession.specs.Sessions.{ended_where, without_first}
use Rattle.pushserver.specs.Calls.{HubCall, updates, hears, goes, moves, connects, takes, gives, stops, ends as ending, called}
use Rattle.pushserver.specs.Hubs.{each_session, in_session, entered, entered_keeping, take_octets}
use Rattle.pushserver.specs.PlainHubs.{Hub, Session, plain_keeps}
use Rattle.pushserver.proofs.Walks.{AnyMessage, Step, Entering, entering-kept, timed-kept, Walks, holds-update, holds-hear, holds-going, holds-moment, walks-give}

abbrev pub IsInside : HubCall → Type 0
IsInside connects = ⊥
IsInside (stops number rcode delay) = ⊥
IsInside (ending number) = ⊥
IsInside _ = Unit {0}

pub record IsKeptInside (P : Hub → Type 0) : Type 0 where
  pub takes_up : (hub : Hub) (number : ℕ) (rest : List ℕ) → P hub → P (in_session number (without_first rest) hub)
  pub changes : (hub : Hub) (number : ℕ) (f : Session → Session) → Step AnyMessage hub f → P hub → P (in_session number f hub)
  pub enters : (hub : Hub) (entry : Entry) → P hub → P (entered entry hub)
  pub ends : (hub : Hub) (point : ℕ) (reason : Session → Option EndReason) → P hub → P (each_session (λ s. ended_where (plain_keeps point) (reason s) s) hub)
  pub takes_in : (hub : Hub) (number : ℕ) (piece : List ℕ) → P hub → P (take_octets hub number piece)

module _ (P : Hub → Type 0) (k : IsKeptInside P) where
  enters_keeping : (hub : Hub) (entry : Entry) → Entering AnyMessage hub entry → P hub → P (entered_keeping entry hub)
  enters_keeping = entering-kept AnyMessage P P k.ends (λ hub entry by h. k.enters hub entry h)

  walks : (number : ℕ) → Walks AnyMessage number P P
  walks number = record {
    reads = λ hub session found there is h. tt;
    takes_up = λ hub session found there is h. k.takes_up hub number found.1 h;
    changes = λ hub f step h. k.changes hub number f step h;
    enters = enters_keeping;
    enters_none = λ hub h. h;
    changes_behind = λ hub f step h. k.changes hub number f step h;
  }

  pub keeps-inside : (call : HubCall) (hub : Hub) → IsInside call → P hub → P (called call hub)
  keeps-inside (updates message) hub inside h = holds-update AnyMessage P hub (λ entry by. enters_keeping hub entry by h) h message tt
  keeps-inside (hears link datagram) hub inside h = holds-hear AnyMessage P hub (λ entry by. enters_keeping hub entry by h) h link datagram tt
  keeps-inside (goes link) hub inside h = holds-going AnyMessage P hub (λ entry by. enters_keeping hub entry by h) h link
  keeps-inside (moves t) hub inside h = holds-moment AnyMessage P hub (λ entry by. enters_keeping hub entry by h) h (timed-kept P k.ends) t
  keeps-inside connects hub inside h = absurd inside
  keeps-inside (takes number piece) hub inside h = k.takes_in hub number piece h
  keeps-inside (gives number room) hub inside h = walks-give AnyMessage number P P (walks number) hub room h
  keeps-inside (stops number rcode delay) hub inside h = absurd inside
  keeps-inside (ending number) hub inside h = absurd inside
