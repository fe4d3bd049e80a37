-- What a call that is for others does to a session: an entry may let names wait or end it as behind, a moment may end it, and a stop may be asked for.
--     others-keep      what these three keep of a session, each such call keeps
use Rattle.std.proofs.Common.{◌≡◌, ℕ, Bool, true, false, cond, Option, Some, None, ◌⊎◌, inl, inr, ap, ◌∙◌, refl}
use Rattle.std.specs.Prelude.{option_map, length, IsTrue, ◌==◌}
use Rattle.std.specs.Option.{option_or}
use Rattle.std.proofs.lemmas.Bool.{eqb-true}
use Rattle.dsosession.specs.declared.session.EndReason.{EndReason}
use Rattle.dsosession.specs.declared.session.EndReason.TheVariants as reasons
use Rattle.history.specs.declared.entry.Entry.{Entry}
use Rattle.pushsession.specs.Sessions.{new_session, with_piece, asked_to_stop, due, ended_with, ended_where, timed}
use Rattle.pushserver.specs.Calls.{HubCall, updates, hears, goes, moves, connects, takes, gives, stops, ends, called}
use Rattle.pushserver.specs.Giving.{give}
use Rattle.pushserver.specs.Hubs.{now, keeps_now, session_of, newest, each_session, entered, behind_at, ends_behind, entered_keeping, disconnect}
use Rattle.pushserver.specs.Laws.{LeavesSession}
use Rattle.pushserver.specs.PlainHubs.{Hub, Session, Queue, plain_keeps}
use Rattle.pushserver.proofs.OtherSessions.{give_changes_one_session}
use Rattle.livesessions.proofs.SessionLists.{found-all, found-changed, found-elsewhere, found-last, found-left}
use Rattle.pushserver.proofs.Walks.{AnyMessage, holds-update, holds-hear, holds-going, holds-moment, holds-connect, with_new}
use Rattle.pushtelling.proofs.Tells.{by_entry}
use Rattle.flight_laws.specs.OtherCalls.{IsOfOthers}
use Rattle.replay.specs.Promises.{is_end_by_itself}
use Rattle.script_laws.proofs.hubs.OwnEnds.{EndsByItself, due-ends, behind-ends-so}

module _ (number : ℕ) (Q : Session → Type 0)
    (waits : (session : Session) (queue : Queue) → Q session → Q (record session { queue = queue }))
    (ended : (point : ℕ) (reason : EndReason) (session : Session) → IsTrue (is_end_by_itself reason) → Q session → Q (ended_with (plain_keeps point) reason session))
    (asks : (rcode delay : ℕ) (session : Session) → Q session → Q (asked_to_stop rcode delay session)) where
  -- the session of the number is there, and this is so of it
  abbrev pub IsThereSo : Hub → Type 0
  IsThereSo hub = (session : Session) × (session_of hub number ≡ Some session) × Q session

  behind-entry : (hub : Hub) (entry : Entry) → IsThereSo hub → IsThereSo (entered entry hub)
  behind-entry hub entry (session, there, q) =
      let noted : Session → Session = by_entry hub.start hub.history entry in
      (noted session, found-all noted number hub.sessions ∙ ap (option_map noted) there, waits session (noted session).queue q)

  -- sessions end by themselves
  ended-where : (point : ℕ) (reason : Option EndReason) (session : Session) → EndsByItself reason → Q session → Q (ended_where (plain_keeps point) reason session)
  ended-where point None session own q = q
  ended-where point (Some reason) session own q = ended point reason session (own reason refl) q

  behind-ends : (hub : Hub) (point : ℕ) (reason : Session → Option EndReason) → ((s : Session) → EndsByItself (reason s)) → IsThereSo hub → IsThereSo (each_session (λ s. ended_where (plain_keeps point) (reason s) s) hub)
  behind-ends hub point reason own (session, there, q) =
      let f : Session → Session = λ s. ended_where (plain_keeps point) (reason s) s in
      (f session, found-all f number hub.sessions ∙ ap (option_map f) there, ended-where point (reason session) session (own session) q)

  behind-timers : (hub : Hub) (point t : ℕ) → IsThereSo hub → IsThereSo (each_session (timed (plain_keeps point) t) hub)
  behind-timers hub point t h = behind-ends hub point (due (plain_keeps point) t) (λ s. due-ends s.standing s.clocks (length s.subscriptions) t) h

  behind-keeping : (hub : Hub) (entry : Entry) → IsThereSo hub → IsThereSo (entered_keeping entry hub)
  behind-keeping hub entry h = behind-entry (ends_behind entry hub) entry (behind-ends hub (newest hub) (λ s. option_map (λ p. reasons.Behind p) (behind_at hub entry s)) (λ s. behind-ends-so (behind_at hub entry s)) h)

  behind-connection : (hub : Hub) → IsThereSo hub → IsThereSo (with_new hub)
  behind-connection hub (session, there, q) =
      let new : ℕ × Session = (hub.numbers_given, new_session (keeps_now hub) (now hub)) in
      (session, found-last number hub.sessions new ∙ ap (λ (o : Option Session). option_or o (cond (new.0 == number) (Some new.1) None)) there, q)

  behind-stop : (hub : Hub) (other rcode delay : ℕ) → IsThereSo hub → IsThereSo (called (stops other rcode delay) hub)
  behind-stop hub other rcode delay (session, there, q) =
      let f : ℕ → Session → Session = λ n s. cond (n == other) (asked_to_stop rcode delay s) s in
      (f number session, found-changed f number hub.sessions ∙ ap (option_map (f number)) there, by (number == other))
    where
      by : (b : Bool) → Q (cond b (asked_to_stop rcode delay session) session)
      by true = asks rcode delay session q
      by false = q

  behind-end : (hub : Hub) (other : ℕ) → (number ≡ other → ⊥) → IsThereSo hub → IsThereSo (disconnect hub other)
  behind-end hub other apart (session, there, q) = by (number == other) refl
    where
      by : (b : Bool) → (number == other) ≡ b → IsThereSo (disconnect hub other)
      by true is = absurd (apart (eqb-true number other is))
      by false is = (session, found-left other number hub.sessions ∙ ap (λ b. cond b None (session_of hub number)) is ∙ there, q)

  behind-give : (hub : Hub) (other room : ℕ) → (number ≡ other → ⊥) → IsThereSo hub → IsThereSo (give hub other room).hub
  behind-give hub other room apart h = by (give_changes_one_session hub other number room apart)
    where
      left-alone : (before : Hub) → LeavesSession before (give hub other room).hub number → IsThereSo before → IsThereSo (give hub other room).hub
      left-alone before same (session, there, q) = (session, same.session ∙ there, q)

      by : LeavesSession hub (give hub other room).hub number ⊎ ((entry : Entry) × LeavesSession (entered_keeping entry hub) (give hub other room).hub number) → IsThereSo (give hub other room).hub
      by (inl same) = left-alone hub same h
      by (inr (entry, same)) = left-alone (entered_keeping entry hub) same (behind-keeping hub entry h)

  pub others-keep : (hub : Hub) (call : HubCall) → IsOfOthers number call → IsThereSo hub → IsThereSo (called call hub)
  others-keep hub (updates message) apart h = holds-update AnyMessage IsThereSo hub (λ entry by. behind-keeping hub entry h) h message tt
  others-keep hub (hears link datagram) apart h = holds-hear AnyMessage IsThereSo hub (λ entry by. behind-keeping hub entry h) h link datagram tt
  others-keep hub (goes link) apart h = holds-going AnyMessage IsThereSo hub (λ entry by. behind-keeping hub entry h) h link
  others-keep hub (moves t) apart h = holds-moment AnyMessage IsThereSo hub (λ entry by. behind-keeping hub entry h) h behind-timers t
  others-keep hub connects apart h = holds-connect IsThereSo hub (behind-connection hub h) h
  others-keep hub (takes other piece) apart (session, there, q) = (session, found-elsewhere other (with_piece piece) number apart hub.sessions ∙ there, q)
  others-keep hub (gives other room) apart h = behind-give hub other room apart h
  others-keep hub (stops other rcode delay) apart h = behind-stop hub other rcode delay h
  others-keep hub (ends other) apart h = behind-end hub other apart h
