-- That each session tells the history is kept by every call.
--     HubTells hub      each session tells the history, and each state can be told
use Rattle.std.proofs.Common.{◌≡◌, ℕ, ◌<◌, Bool, true, false, cond, not, List, [], ◌∷◌, ◌++◌, take, Some}
use Rattle.std.specs.Prelude.{◌==◌}
use Rattle.std.specs.List.{AllByRecursion}
use Rattle.std.proofs.lemmas.List.Elements.{All-append, All-take}
use Rattle.coalesce.proofs.ReadBack.{each-append}
use Rattle.dsotlv.specs.Messages.{first_message}
use Rattle.history.specs.declared.entry.Entry.{Entry}
use Rattle.pushsession.specs.Sessions.{new_session, room_of, with_piece, is_open, asked_to_stop, ended_where, without_first}
use Rattle.pushsession.specs.declared.session_status.SessionStatus.TheVariants.{AskedToStop}
use Rattle.pushserver.specs.PlainHubs.{Hub, Session, plain_keeps}
use Rattle.pushserver.specs.Hubs.{newest, now, keeps_now, session_of, each_session, in_session, entered, stop}
use Rattle.livesessions.proofs.SessionLists.{found-one, each-changed}
use Rattle.pushserver.proofs.Walks.{Entering, by_update, by_moment, by_link, IsKept}
use Rattle.rrset.proofs.Places.{all_filter}
use Rattle.dsotlv.specs.Laws.{AreOctets}
use Rattle.pushserver.proofs.session_steps.Octets.{first_octets, rest_octets}
use Rattle.pushserver.proofs.told_rows.HubTells.{StatesTell}
use Rattle.pushserver.proofs.told_rows.Hubs.{update_tells, moment_tells, link_tells}
use Rattle.pushtelling.proofs.Steps.{tells-step, tells-ended_where}
use Rattle.pushtelling.proofs.Tells.{Tells, by_entry, tells-entered, tells-new, tells-input}

pub record HubTells (hub : Hub) : Type 0 where
  pub states : StatesTell hub
  pub sessions : AllByRecursion (λ e. Tells hub.start hub.history e.1) hub.sessions

-- ---- one session, and all

abbrev KeepsTelling : Hub → (Session → Session) → Type 0
KeepsTelling hub f = (s : Session) → Tells hub.start hub.history s → Tells hub.start hub.history (f s)

hub-each : (hub : Hub) (f : Session → Session) → KeepsTelling hub f → HubTells hub → HubTells (each_session f hub)
hub-each hub f keeps h = record { states = h.states; sessions = each-changed (Tells hub.start hub.history) (Tells hub.start hub.history) (λ n. f) (λ n. keeps) hub.sessions h.sessions }

hub-in_session : (hub : Hub) (number : ℕ) (f : Session → Session) → KeepsTelling hub f → HubTells hub → HubTells (in_session number f hub)
hub-in_session hub number f keeps h = record {
  states = h.states;
  sessions = each-changed (Tells hub.start hub.history) (Tells hub.start hub.history) (λ n s. cond (n == number) (f s) s) (λ n s t. by s t (n == number)) hub.sessions h.sessions;
}
  where
    by : (s : Session) → Tells hub.start hub.history s → (b : Bool) → Tells hub.start hub.history (cond b (f s) s)
    by s t true = keeps s t
    by s t false = t

-- ---- a message that is taken up

octets-found : (hub : Hub) (number : ℕ) (session : Session) (found : List ℕ × List ℕ) → session_of hub number ≡ Some session → first_message session.input ≡ Some found → HubTells hub → AreOctets found.0 × AreOctets found.1
octets-found hub number session found there is h =
    let input = (found-one (Tells hub.start hub.history) number hub.sessions session there h.sessions).octets in
    (first_octets session.input found is input, rest_octets session.input found is input)

-- ---- entries

hub-entered : (hub : Hub) (entry : Entry) → StatesTell (entered entry hub) → HubTells hub → HubTells (entered entry hub)
hub-entered hub entry states h = record {
  states = states;
  sessions = each-changed (Tells hub.start hub.history) (Tells hub.start (hub.history ++ entry ∷ [])) (λ n. by_entry hub.start hub.history entry) (λ n s t. tells-entered hub.start hub.history entry s t) hub.sessions h.sessions;
}

hub-enters : (hub : Hub) {entry : Entry} → Entering AreOctets hub entry → HubTells hub → HubTells (entered entry hub)
hub-enters hub (by_update message u octets is room) h = hub-entered hub _ (update_tells hub message u h.states octets is) h
hub-enters hub (by_moment t room) h = hub-entered hub _ (moment_tells hub t h.states) h
hub-enters hub (by_link entry link one brings is room) h = hub-entered hub entry (link_tells hub entry link one brings h.states) h

-- ---- the calls

hub-asks_stop : (hub : Hub) (number rcode delay : ℕ) → HubTells hub → HubTells (stop hub number rcode delay)
hub-asks_stop hub number rcode delay h = hub-in_session hub number (asked_to_stop rcode delay) (λ s t. by s t (is_open s.standing)) h
  where
    by : (s : Session) → Tells hub.start hub.history s → (b : Bool) → Tells hub.start hub.history (cond b (record s { standing = AskedToStop rcode delay }) s)
    by s t true = t
    by s t false = t

pub hub_keeps : IsKept AreOctets HubTells
hub_keeps = record {
  reads = λ hub number session found there is h. (octets-found hub number session found there is h).0;
  takes_up = λ hub number session found there is h. hub-in_session hub number (without_first found.1) (λ s t. tells-input hub.start hub.history s found.1 (octets-found hub number session found there is h).1 t) h;
  changes = λ hub number f step h. hub-in_session hub number f (λ s t. tells-step hub h.states step s t) h;
  enters = λ hub entry by h. hub-enters hub by h;
  ends = λ hub point reason h. hub-each hub (λ s. ended_where (plain_keeps point) (reason s) s) (λ s tells. tells-ended_where hub.start hub.history point (reason s) s tells) h;
  takes_in = λ hub number piece octets h. hub-in_session hub number (with_piece piece)
      (λ s t. tells-input hub.start hub.history s (s.input ++ take (room_of s) piece) (All-append (λ o. o < 256) s.input (take (room_of s) piece) t.octets (All-take (λ o. o < 256) (room_of s) piece octets)) t) h;
  asks_stop = hub-asks_stop;
  makes = λ hub h. record {
    states = h.states;
    sessions = each-append (λ (e : ℕ × Session). Tells hub.start hub.history e.1) hub.sessions ((hub.numbers_given, new_session (keeps_now hub) (now hub)) ∷ []) h.sessions (tells-new hub.start hub.history (newest hub) (now hub), tt);
  };
  drops = λ hub number h. record { states = h.states; sessions = all_filter (λ (e : ℕ × Session). Tells hub.start hub.history e.1) (λ (e : ℕ × Session). not (e.0 == number)) hub.sessions h.sessions };
}
