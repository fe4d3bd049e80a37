-- Calls that neither bring octets to a session nor give of it leave it served.
--     NotFor number call      such a call
--     others-serve      so they do
use Rattle.std.proofs.Common.{◌≡◌, ℕ, Bool, true, false, cond, List, [], ◌∷◌, Option, Some, None, refl, sym, subst, true≢false}
use Rattle.std.specs.Prelude.{◌==◌}
use Rattle.std.specs.List.{AllByRecursion}
use Rattle.dsosession.specs.declared.session.EndReason.{EndReason}
use Rattle.pushsession.specs.Sessions.{is_open, new_session, with_piece, asked_to_stop, ended_where, without_first}
use Rattle.pushsession.specs.declared.session_status.SessionStatus.TheVariants.{AskedToStop}
use Rattle.pushserver.specs.PlainHubs.{Hub, Session, plain_keeps}
use Rattle.pushserver.specs.Hubs.{now, keeps_now, in_session, entered, entered_keeping}
use Rattle.pushserver.specs.Calls.{HubCall, updates, hears, goes, moves, connects, takes as taking, gives, stops, ends, called, after_calls}
use Rattle.livesessions.proofs.SessionLists.{other-number}
use Rattle.pushserver.proofs.Walks.{AnyMessage, Entering, EndsSome, entering-kept, timed-kept, holds-update, holds-hear, holds-going, holds-moment, holds-connect, with_new, Walks, walks-give}
use Rattle.history.specs.declared.entry.Entry.{Entry}
use Rattle.pushtelling.proofs.OneSession.{OfOne, one-changed, one-last, one-left}
use Rattle.pushtelling.proofs.Tells.{by_entry}
use Rattle.script_laws.specs.Sending.{IsServed}

abbrev pub NotFor : ℕ → HubCall → Type 0
NotFor number (taking other piece) = number ≡ other → ⊥
NotFor number (gives other room) = number ≡ other → ⊥
NotFor number _ = Unit {0}

-- of the session of a number, if there is one
abbrev pub ServedAt : ℕ → Hub → Type 0
ServedAt number hub = OfOne number IsServed hub.sessions

-- ---- one session

served-where : (s : Session) (o : Option EndReason) (point : ℕ) → IsServed s → IsServed (ended_where (plain_keeps point) o s)
served-where s None point h = h
served-where s (Some reason) point h = record { silent = h.silent; waits = λ opened. absurd (true≢false (sym opened)) }

served-asked : (rcode delay : ℕ) (s : Session) → IsServed s → IsServed (asked_to_stop rcode delay s)
served-asked rcode delay s h = by (is_open s.standing) refl
  where
    by : (b : Bool) → is_open s.standing ≡ b → IsServed (cond b (record s { standing = AskedToStop rcode delay }) s)
    by true opened = record { silent = h.silent; waits = λ later. h.waits opened }
    by false closed = h

-- ---- a hub

module _ (number : ℕ) where
  in-served : (hub : Hub) (other : ℕ) (f : Session → Session) → ((s : Session) → IsServed s → IsServed (f s)) → ServedAt number hub → ServedAt number (in_session other f hub)
  in-served hub other f keeps h = one-changed number IsServed IsServed (λ n s. cond (n == other) (f s) s) (λ s c. by s c (number == other)) hub.sessions h
    where
      by : (s : Session) → IsServed s → (b : Bool) → IsServed (cond b (f s) s)
      by s c true = keeps s c
      by s c false = c

  other-served : (hub : Hub) (other : ℕ) (f : Session → Session) → (number ≡ other → ⊥) → ServedAt number hub → ServedAt number (in_session other f hub)
  other-served hub other f apart h =
      one-changed number IsServed IsServed (λ n s. cond (n == other) (f s) s) (λ s c. subst (λ (b : Bool). IsServed (cond b (f s) s)) (sym (other-number number other apart)) c) hub.sessions h

  enters : (hub : Hub) (entry : Entry) → ServedAt number hub → ServedAt number (entered entry hub)
  enters hub entry h = one-changed number IsServed IsServed (λ n. by_entry hub.start hub.history entry) (λ s c. record { silent = c.silent; waits = c.waits }) hub.sessions h

  ends-some : EndsSome (ServedAt number)
  ends-some hub point reason h = one-changed number IsServed IsServed (λ n s. ended_where (plain_keeps point) (reason s) s) (λ s. served-where s (reason s) point) hub.sessions h

  enters_keeping : (hub : Hub) (entry : Entry) → Entering AnyMessage hub entry → ServedAt number hub → ServedAt number (entered_keeping entry hub)
  enters_keeping = entering-kept AnyMessage (ServedAt number) (ServedAt number) ends-some (λ hub entry by h. enters hub entry h)

  makes : (hub : Hub) → ServedAt number hub → ServedAt number (with_new hub)
  makes hub h = one-last number IsServed hub.sessions (hub.numbers_given, new_session (keeps_now hub) (now hub)) (λ is. record { silent = refl; waits = λ opened. refl }) h

  walks : (other : ℕ) → (number ≡ other → ⊥) → Walks AnyMessage other (ServedAt number) (ServedAt number)
  walks other apart = record {
    reads = λ hub s found there is h. tt;
    takes_up = λ hub s found there is h. other-served hub other (without_first found.1) apart h;
    changes = λ hub f step h. other-served hub other f apart h;
    enters = enters_keeping;
    enters_none = λ hub h. h;
    changes_behind = λ hub f step h. other-served hub other f apart h;
  }

  other-serves : (call : HubCall) (hub : Hub) → NotFor number call → ServedAt number hub → ServedAt number (called call hub)
  other-serves (updates message) hub other h = holds-update AnyMessage (ServedAt number) hub (λ entry by. enters_keeping hub entry by h) h message tt
  other-serves (hears link datagram) hub other h = holds-hear AnyMessage (ServedAt number) hub (λ entry by. enters_keeping hub entry by h) h link datagram tt
  other-serves (goes link) hub other h = holds-going AnyMessage (ServedAt number) hub (λ entry by. enters_keeping hub entry by h) h link
  other-serves (moves t) hub other h = holds-moment AnyMessage (ServedAt number) hub (λ entry by. enters_keeping hub entry by h) h (timed-kept (ServedAt number) ends-some) t
  other-serves connects hub other h = holds-connect (ServedAt number) hub (makes hub h) h
  other-serves (taking n piece) hub other h = other-served hub n (with_piece piece) other h
  other-serves (gives n room) hub other h = walks-give AnyMessage n (ServedAt number) (ServedAt number) (walks n other) hub room h
  other-serves (stops n rcode delay) hub other h = in-served hub n (asked_to_stop rcode delay) (served-asked rcode delay) h
  other-serves (ends n) hub other h = one-left number IsServed n hub.sessions h

  pub others-serve : (calls : List HubCall) (hub : Hub) → AllByRecursion (NotFor number) calls → ServedAt number hub → ServedAt number (after_calls calls hub)
  others-serve [] hub others h = h
  others-serve (call ∷ calls) hub others h = others-serve calls (called call hub) others.1 (other-serves call hub others.0 h)
