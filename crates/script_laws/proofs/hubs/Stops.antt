-- The numbers of each stop that was asked for fit their fields, after any calls whose own stops do.
--     stops-fit
use Rattle.std.proofs.Common.{ℕ, Bool, true, false, cond, not, List, [], ◌∷◌}
use Rattle.std.specs.Prelude.{◌==◌}
use Rattle.std.specs.List.{AllByRecursion}
use Rattle.coalesce.proofs.ReadBack.{each-append}
use Rattle.rrset.proofs.Places.{all_filter}
use Rattle.pushsession.specs.Sessions.{new_session, is_open, with_piece, asked_to_stop, ended_where, without_first}
use Rattle.pushsession.specs.declared.session_status.SessionStatus.TheVariants.{AskedToStop}
use Rattle.pushserver.specs.Calls.{HubCall, updates, hears, goes, moves, connects, takes, gives, stops, ends, called, after_calls}
use Rattle.pushserver.specs.Hubs.{now, keeps_now, in_session}
use Rattle.pushserver.specs.PlainHubs.{Hub, Session, plain_keeps}
use Rattle.livesessions.proofs.SessionLists.{each-changed}
use Rattle.pushserver.proofs.Walks.{holds-connect}
use Rattle.pushtelling.proofs.Standings.{has-step, has-ended_where}
use Rattle.pushtelling.proofs.Tells.{by_entry}
use Rattle.flight_laws.specs.Turns.{StopFits}
use Rattle.script_laws.specs.Reached.{FitsCall, FitCalls}
use Rattle.script_laws.proofs.hubs.Inside.{IsKeptInside, keeps-inside}

abbrev pub HasFitStop : Session → Type 0
HasFitStop session = StopFits session.standing

abbrev pub HaveFitStops : Hub → Type 0
HaveFitStops hub = AllByRecursion (λ e. HasFitStop e.1) hub.sessions

in-fit : (hub : Hub) (number : ℕ) (f : Session → Session) → ((s : Session) → HasFitStop s → HasFitStop (f s)) → HaveFitStops hub → HaveFitStops (in_session number f hub)
in-fit hub number f keeps h = each-changed HasFitStop HasFitStop (λ n s. cond (n == number) (f s) s) (λ n s fits. by s fits (n == number)) hub.sessions h
  where
    by : (s : Session) → HasFitStop s → (b : Bool) → HasFitStop (cond b (f s) s)
    by s fits true = keeps s fits
    by s fits false = fits

fit-kept : IsKeptInside HaveFitStops
fit-kept = record {
  takes_up = λ hub number rest h. in-fit hub number (without_first rest) (λ s fits. fits) h;
  changes = λ hub number f step h. in-fit hub number f (λ s fits. has-step StopFits (λ reason. tt) (λ since. tt) hub step s fits) h;
  enters = λ hub entry h. each-changed HasFitStop HasFitStop (λ n. by_entry hub.start hub.history entry) (λ n s fits. fits) hub.sessions h;
  ends = λ hub point reason h. each-changed HasFitStop HasFitStop (λ n s. ended_where (plain_keeps point) (reason s) s) (λ n s fits. has-ended_where StopFits (λ reason. tt) (λ since. tt) point (reason s) s fits) hub.sessions h;
  takes_in = λ hub number piece h. in-fit hub number (with_piece piece) (λ s fits. fits) h;
}

called-fit : (call : HubCall) (hub : Hub) → FitsCall call → HaveFitStops hub → HaveFitStops (called call hub)
called-fit (updates message) hub fit h = keeps-inside HaveFitStops fit-kept (updates message) hub tt h
called-fit (hears link datagram) hub fit h = keeps-inside HaveFitStops fit-kept (hears link datagram) hub tt h
called-fit (goes link) hub fit h = keeps-inside HaveFitStops fit-kept (goes link) hub tt h
called-fit (moves t) hub fit h = keeps-inside HaveFitStops fit-kept (moves t) hub tt h
called-fit connects hub fit h =
    holds-connect HaveFitStops hub (each-append (λ (e : ℕ × Session). HasFitStop e.1) hub.sessions ((hub.numbers_given, new_session (keeps_now hub) (now hub)) ∷ []) h (tt, tt)) h
called-fit (takes number piece) hub fit h = keeps-inside HaveFitStops fit-kept (takes number piece) hub tt h
called-fit (gives number room) hub fit h = keeps-inside HaveFitStops fit-kept (gives number room) hub tt h
called-fit (stops number rcode delay) hub fit h = in-fit hub number (asked_to_stop rcode delay) (λ s fits. by s fits (is_open s.standing)) h
  where
    by : (s : Session) → HasFitStop s → (b : Bool) → HasFitStop (cond b (record s { standing = AskedToStop rcode delay }) s)
    by s fits true = fit.1
    by s fits false = fits
called-fit (ends number) hub fit h = all_filter (λ (e : ℕ × Session). HasFitStop e.1) (λ (e : ℕ × Session). not (e.0 == number)) hub.sessions h

pub stops-fit : (calls : List HubCall) (hub : Hub) → FitCalls calls → HaveFitStops hub → HaveFitStops (after_calls calls hub)
stops-fit [] hub fit h = h
stops-fit (call ∷ calls) hub fit h = stops-fit calls (called call hub) fit.1 (called-fit call hub fit.0 h)
