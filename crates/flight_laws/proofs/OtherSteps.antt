-- The other calls of the hub leave what is under way between a session and its client.
--     other-calls-leave      each of them
use Rattle.std.proofs.Common.{◌≡◌, ℕ, ◌+◌, Bool, true, false, ◌&&◌, cond, List, [], ◌∷◌, ◌++◌, Option, Some, None, ◌⊎◌, inl, inr, sym, ap, ◌∙◌, subst, refl, true≢false}
use Rattle.std.specs.Prelude.{option_map, nat_lt, length, ◌==◌, if◌then◌else◌}
use Rattle.std.specs.Option.{option_or}
use Rattle.std.proofs.lemmas.Bool.{eqb-true, eq-eqb}
use Rattle.push_base.specs.Limits.{max_number}
use Rattle.rrset.specs.RecordSet.{changes}
use Rattle.dsosession.specs.declared.session.EndReason.{EndReason}
use Rattle.dsosession.specs.declared.session.EndReason.TheVariants as reasons
use Rattle.dsosession.specs.declared.session.Timers.{Timers}
use Rattle.history.specs.States.{State}
use Rattle.history.specs.declared.entry.Entry.{Entry}
use Rattle.pushsession.specs.declared.session_status.SessionStatus.TheVariants.{AskedToStop}
use Rattle.pushsession.specs.Sessions.{is_open, new_session, with_piece, asked_to_stop, ended_where, noted}
use Rattle.pushserver.specs.Calls.{HubCall, updates, hears, goes, moves, connects, takes, gives, stops, ends, called}
use Rattle.pushserver.specs.Giving.{give, is_served_at}
use Rattle.pushserver.specs.Hubs.{newest, now, records_now, keeps_now, session_of, each_session, in_session, entered, behind_at, ends_behind, entered_keeping, connect, disconnect, max_sessions}
use Rattle.pushserver.specs.Laws.{LeavesSession}
use Rattle.pushserver.specs.PlainHubs.{Session, Hub, plain_keeps}
use Rattle.pushserver.proofs.OtherSessions.{give_changes_one_session}
use Rattle.pushserver.proofs.Walks.{AnyMessage, timed-kept, holds-update, holds-hear, holds-going, holds-moment}
use Rattle.livesessions.proofs.SessionLists.{found-all, found-elsewhere, found-in, found-last, found-left}
use Rattle.pushclient.specs.Clients.{Client, Connection}
use Rattle.inflight.specs.Ends.{ends_of, going_up, going_down}
use Rattle.inflight.specs.Flight.{InFlight, IsUnderWay}
use Rattle.flight_laws.specs.OtherCalls.{IsOfOthers, OtherCallsLeaveIt}
use Rattle.flight_laws.proofs.Ending.{entries-leave, stops-asked, sessions-end}

module _ (number : ℕ) (told : List (ℕ × ℕ)) (client : Client) (c : Connection) (up_wire down_wire : List ℕ) where
  -- the session of the number is there in a hub, and what is under way fits
  abbrev Stays : Hub → Type 0
  Stays hub = (later : Session) × (session_of hub number ≡ Some later) × IsUnderWay hub told later client c up_wire down_wire

  -- a hub with the same session, start and timers
  left-alone : (hub later : Hub) → LeavesSession hub later number → Stays hub → Stays later
  left-alone hub later same (session, there, i) = (
    session,
    same.session ∙ there,
    subst (λ (s : State). InFlight (record (ends_of hub told session client c) { timers = later.timers; serves = is_served_at s }) (going_up session c up_wire) (going_down session c down_wire)) (sym same.start)
        (subst (λ (t : Timers). InFlight (record (ends_of hub told session client c) { timers = t }) (going_up session c up_wire) (going_down session c down_wire)) (sym same.timers) i),
  )

  module _ (hub : Hub) where
    -- an entry is made
    behind-entry : (entry : Entry) → Stays hub → Stays (entered entry hub)
    behind-entry entry (session, there, i) =
        let later : Hub = record hub { history = hub.history ++ entry ∷ [] } in
        let note : Session → Session = noted (keeps_now hub) (changes (records_now hub) (records_now later)) (newest hub) in (
          note session,
          found-all note number hub.sessions ∙ ap (option_map note) there,
          entries-leave hub entry (changes (records_now hub) (records_now later)) (newest hub) told session client c up_wire down_wire i,
        )

    -- any sessions may end
    behind-ends : (point : ℕ) (reason : Session → Option EndReason) → Stays hub → Stays (each_session (λ s. ended_where (plain_keeps point) (reason s) s) hub)
    behind-ends point reason (session, there, i) =
        let f : Session → Session = λ s. ended_where (plain_keeps point) (reason s) s in
        (f session, found-all f number hub.sessions ∙ ap (option_map f) there, by (reason session))
      where
        by : (o : Option EndReason) → IsUnderWay hub told (ended_where (plain_keeps point) o session) client c up_wire down_wire
        by None = i
        by (Some reason) = sessions-end hub reason told session client c (going_up session c up_wire) (going_down session c down_wire) i

    -- a new connection
    abbrev with_new : Hub
    with_new = record hub { sessions = hub.sessions ++ (hub.numbers_given, new_session (keeps_now hub) (now hub)) ∷ []; numbers_given = hub.numbers_given + 1 }

    behind-connection : Stays hub → Stays (connect hub).1
    behind-connection (session, there, i) = by (nat_lt (length hub.sessions) max_sessions && nat_lt hub.numbers_given max_number)
      where
        by : (b : Bool) → let r : Option ℕ × Hub = if b then (Some hub.numbers_given, with_new) else (None, hub) in Stays r.1
        by true = (session, found-last number hub.sessions (hub.numbers_given, new_session (keeps_now hub) (now hub)) ∙ ap (λ (o : Option Session). option_or o (cond (hub.numbers_given == number) (Some (new_session (keeps_now hub) (now hub))) None)) there, i)
        by false = (session, there, i)

    -- what changes another session
    elsewhere : (other : ℕ) (f : Session → Session) → (number ≡ other → ⊥) → Stays hub → Stays (in_session other f hub)
    elsewhere other f apart (session, there, i) = (session, found-elsewhere other f number apart hub.sessions ∙ there, i)

    -- a stop is asked for
    behind-stop : (other rcode delay : ℕ) → Stays hub → Stays (in_session other (asked_to_stop rcode delay) hub)
    behind-stop other rcode delay (session, there, i) = by (other == number) refl
      where
        here : Stays (in_session number (asked_to_stop rcode delay) hub)
        here = (
          asked_to_stop rcode delay session,
          found-in number (asked_to_stop rcode delay) hub.sessions ∙ ap (option_map (asked_to_stop rcode delay)) there,
          asked (is_open session.standing) (stops-asked hub rcode delay told session client c (going_up session c up_wire) (going_down session c down_wire) i),
        )
          where
            asked : (b : Bool) → InFlight (ends_of hub told (cond b (record session { standing = AskedToStop rcode delay }) session) client c) (going_up session c up_wire) (going_down session c down_wire)
                → IsUnderWay hub told (cond b (record session { standing = AskedToStop rcode delay }) session) client c up_wire down_wire
            asked true j = j
            asked false j = j

        by : (b : Bool) → (other == number) ≡ b → Stays (in_session other (asked_to_stop rcode delay) hub)
        by true is = subst (λ n. Stays (in_session n (asked_to_stop rcode delay) hub)) (sym (eqb-true other number is)) here
        by false is = elsewhere other (asked_to_stop rcode delay) (λ same. true≢false (sym (eq-eqb other number (sym same)) ∙ is)) (session, there, i)

    -- another connection ends
    behind-end : (other : ℕ) → (number ≡ other → ⊥) → Stays hub → Stays (disconnect hub other)
    behind-end other apart (session, there, i) = by (number == other) refl
      where
        by : (b : Bool) → (number == other) ≡ b → Stays (disconnect hub other)
        by true is = absurd (apart (eqb-true number other is))
        by false is = (session, found-left other number hub.sessions ∙ ap (λ b. cond b None (session_of hub number)) is ∙ there, i)

  -- and an entry is made
  behind-keeping : (hub : Hub) (entry : Entry) → Stays hub → Stays (entered_keeping entry hub)
  behind-keeping hub entry s = behind-entry (ends_behind entry hub) entry (behind-ends hub (newest hub) (λ t. option_map (λ p. reasons.Behind p) (behind_at hub entry t)) s)

  -- something is given of another
  behind-give : (hub : Hub) (other room : ℕ) → (number ≡ other → ⊥) → Stays hub → Stays (give hub other room).hub
  behind-give hub other room apart s = by (give_changes_one_session hub other number room apart)
    where
      by : LeavesSession hub (give hub other room).hub number ⊎ ((entry : Entry) × LeavesSession (entered_keeping entry hub) (give hub other room).hub number) → Stays (give hub other room).hub
      by (inl same) = left-alone hub (give hub other room).hub same s
      by (inr (entry, same)) = left-alone (entered_keeping entry hub) (give hub other room).hub same (behind-keeping hub entry s)

  by-call : (hub : Hub) (call : HubCall) → IsOfOthers number call → Stays hub → Stays (called call hub)
  by-call hub (updates message) apart s = holds-update AnyMessage Stays hub (λ entry by. behind-keeping hub entry s) s message tt
  by-call hub (hears link datagram) apart s = holds-hear AnyMessage Stays hub (λ entry by. behind-keeping hub entry s) s link datagram tt
  by-call hub (goes link) apart s = holds-going AnyMessage Stays hub (λ entry by. behind-keeping hub entry s) s link
  by-call hub (moves t) apart s = holds-moment AnyMessage Stays hub (λ entry by. behind-keeping hub entry s) s (timed-kept Stays behind-ends) t
  by-call hub connects apart s = behind-connection hub s
  by-call hub (takes other piece) apart s = elsewhere hub other (with_piece piece) apart s
  by-call hub (gives other room) apart s = behind-give hub other room apart s
  by-call hub (stops other rcode delay) apart s = behind-stop hub other rcode delay s
  by-call hub (ends other) apart s = behind-end hub other apart s

pub other-calls-leave : OtherCallsLeaveIt
other-calls-leave hub call number told session client c up_wire down_wire apart there i = by-call number told client c up_wire down_wire hub call apart (session, there, i)
