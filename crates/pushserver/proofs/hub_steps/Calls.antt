-- The calls beside `give`, on the hub that is kept and on the plain one.
--     entry-stands, offered-stands      an entry; one that is offered
--     updates_stand, hears_stand, goings_stand, moments_stand, connects_stand, takes_stand, stops_stand, ends_stand
use Rattle.std.proofs.Common.{◌≡◌, ℕ, ◌+◌, ◌-◌, ◌<◌, Bool, true, false, cond, not, ◌&&◌, ◌||◌, List, [], ◌∷◌, ◌++◌, length, Option, Some, None, Result, Ok, Err, sym, ap, subst, refl, arith}
use Rattle.std.proofs.lemmas.Bool.{ltb-true}
use Rattle.std.proofs.lemmas.List.{length-append}
use Rattle.std.proofs.lemmas.List.Sums.{length-filter, count_by-le-length}
use Rattle.std.proofs.lemmas.Slice.Zip.{AllZip-long}
use Rattle.std.specs.Prelude.{nat_lt, min, ◌==◌}
use Rattle.std.specs.List.{AllZip, AllByRecursion, list_any}
use Rattle.push_base.specs.Limits.{max_input, max_number}
use Rattle.rrset.proofs.Distinct.{distinct_push, distinct_filter}
use Rattle.rrset.specs.declared.record.Hearing.{Hearing}
use Rattle.dnswire.specs.Reading.{hearing_of}
use Rattle.dnswire.specs.declared.message.HearFault.{HearFault}
use Rattle.dnswire.specs.declared.message.Update.{Update}
use Rattle.history.specs.Plans.{Plan, refuse, idle, accept, planned}
use Rattle.history.specs.States.{verdict}
use Rattle.history.specs.declared.entry.Entry.{Entry}
use Rattle.history.specs.declared.entry.Entry.TheVariants as entries
use Rattle.pushsession.specs.Kept.{KeptSession, keeping}
use Rattle.pushsession.specs.Sessions.{is_open, room_of, new_session, with_piece, asked_to_stop, due, timed}
use Rattle.pushserver.specs.PlainHubs.{Hub, Session, plain_keeps}
use Rattle.livesessions.specs.NumberedSessions.{Numbered, session_in, without_session}
use Rattle.pushserver.specs.Hubs.{newest, now, state_now, each_session, entered, entered_keeping, can_enter, update, hear, link_gone, moment, connect, take_octets, stop, disconnect, max_sessions}
use Rattle.pushserver.specs.Offering.{offered_by, offered, heard_of, is_made}
use Rattle.pushserver.specs.Rows.{IsTellable}
use Rattle.pushserver.specs.KeptHubs.{KeptHub, StandsFor, WaitSince}
use Rattle.pushserver.specs.SoundHubs.{IsSoundSession}
use Rattle.dsotlv.specs.Laws.{AreOctets}
use Rattle.pushserver.specs.Simulation.{BothAnswer, UpdatesStand, HearsStand, GoingsStand, MomentsStand, ConnectsStand, TakesStand, StopsStand, EndsStand}
use Rattle.pushserver.proofs.session_steps.Parts.{SessionFits, of_parts, asks_nothing, none_waits, reads_nothing, writes_nothing}
use Rattle.pushserver.proofs.session_steps.Standing.{with_piece-keeps, asked-keeps, timed-keeps}
use Rattle.pushserver.proofs.told_rows.Updated.{update-tellable, moment-tellable}
use Rattle.pushserver.proofs.told_rows.Histories.{state_at-last}
use Rattle.pushserver.proofs.told_rows.HubTells.{StatesTell}
use Rattle.pushserver.proofs.told_rows.HeardRows.{brings_nothing, brings_read}
use Rattle.pushserver.proofs.told_rows.Hubs.{link_tells}
use Rattle.pushserver.proofs.hub_steps.Pairs.{zip-all, zip-push, zip-filter}
use Rattle.pushserver.proofs.hub_steps.Standing.{kept_of, Stands, with_kept, fitting, fits-stand, fits-sound, with_sessions-stands, each-stands, in-stands, session-moved, FoundBoth, both_found}
use Rattle.pushserver.proofs.hub_steps.Cases.{enters_update, update_as, hear_as, moment_as}
use Rattle.pushserver.proofs.Offering.{as_going, as_hearing, by_room, gone-offered, hearing-offered}
use Rattle.pushserver.proofs.hub_steps.Entering.{keeping-stands}
use Rattle.pushserver.proofs.session_steps.Since.{asked_to_stop-since, ended_where-since}
use Rattle.rrset.proofs.Places.{all_filter}
use Rattle.coalesce.proofs.ReadBack.{each-append}

pub tells-now : (hub : Hub) (from : ℕ) (ks : Numbered KeptSession) → Stands hub from ks → IsTellable (state_now hub)
tells-now hub from ks h = h.sound.states (newest hub) (omega arith)

-- any entry stands behind which each state can be told
pub entry-stands : (hub : Hub) (from : ℕ) (ks : Numbered KeptSession) (entry : Entry) → StatesTell (entered entry hub) → Stands hub from ks → StandsFor (entered_keeping entry (kept_of hub from ks)) (entered_keeping entry hub)
entry-stands hub from ks entry states h = keeping-stands hub from ks entry (subst IsTellable (state_at-last hub.start hub.history entry) (states (newest (entered entry hub)) (omega arith))) h

-- whatever entry is offered
pub offered-stands : (hub : Hub) (from : ℕ) (ks : Numbered KeptSession) (entry : Entry) → StatesTell (entered entry hub) → Stands hub from ks → BothAnswer (offered entry (kept_of hub from ks)) (offered entry hub)
offered-stands hub from ks entry states h = by (planned (state_now hub) entry)
  where
    room_stands : (b : Bool) → BothAnswer (by_room (kept_of hub from ks) entry b) (by_room hub entry b)
    room_stands true = (refl, entry-stands hub from ks entry states h)
    room_stands false = (refl, h)

    by : (plan : Plan) → BothAnswer (offered_by plan entry (kept_of hub from ks)) (offered_by plan entry hub)
    by (refuse code) = (refl, h)
    by idle = (refl, h)
    by (accept changed) = room_stands (can_enter hub)

-- ---- `update`

pub update-stands : (hub : Hub) (from : ℕ) (ks : Numbered KeptSession) (message : List ℕ) → AreOctets message → Stands hub from ks → BothAnswer (update (kept_of hub from ks) message) (update hub message)
update-stands hub from ks message octets h = by (verdict (state_now hub) message) refl
  where
    by_room : (u : Update) → verdict (state_now hub) message ≡ Ok u → (b : Bool) → BothAnswer (enters_update (kept_of hub from ks) u b) (enters_update hub u b)
    by_room u is true = (refl, keeping-stands hub from ks (entries.Update u) (update-tellable (state_now hub) message u (tells-now hub from ks h) octets is) h)
    by_room u is false = (refl, h)

    by : (r : Result Update ℕ) → verdict (state_now hub) message ≡ r → BothAnswer (update_as (kept_of hub from ks) r) (update_as hub r)
    by (Err code) is = (refl, h)
    by (Ok u) is = by_room u is (can_enter hub)

pub updates_stand : UpdatesStand
updates_stand k hub message h octets = with_kept (λ k. BothAnswer (update k message) (update hub message)) k hub h (update-stands hub k.seen.number k.sessions message octets)

-- ---- `hear`

pub hear-stands : (hub : Hub) (from : ℕ) (ks : Numbered KeptSession) (link : ℕ) (datagram : List ℕ) → AreOctets datagram → Stands hub from ks → BothAnswer (hear (kept_of hub from ks) link datagram) (hear hub link datagram)
hear-stands hub from ks link datagram octets h = by (hearing_of datagram) refl
  where
    heard_stands : (hearing : Hearing) → hearing_of datagram ≡ Ok hearing → BothAnswer (as_hearing (kept_of hub from ks) (offered (entries.Heard link hearing) (kept_of hub from ks))) (as_hearing hub (offered (entries.Heard link hearing) hub))
    heard_stands hearing reads =
        let entry = entries.Heard link hearing in
        let both = offered-stands hub from ks entry (link_tells hub entry link refl (brings_read datagram hearing octets reads) h.sound.states) h in
        (ap heard_of both.0, both.1)

    by : (r : Result Hearing HearFault) → hearing_of datagram ≡ r → BothAnswer (hear_as (kept_of hub from ks) link r) (hear_as hub link r)
    by (Err fault) reads = (refl, h)
    by (Ok hearing) reads =
        subst (λ k. BothAnswer k (hear_as hub link (Ok hearing))) (sym (hearing-offered (kept_of hub from ks) link hearing))
        (subst (λ p. BothAnswer (as_hearing (kept_of hub from ks) (offered (entries.Heard link hearing) (kept_of hub from ks))) p) (sym (hearing-offered hub link hearing)) (heard_stands hearing reads))

pub hears_stand : HearsStand
hears_stand k hub link datagram h octets = with_kept (λ k. BothAnswer (hear k link datagram) (hear hub link datagram)) k hub h (hear-stands hub k.seen.number k.sessions link datagram octets)

-- ---- `link_gone`

pub gone-stands : (hub : Hub) (from : ℕ) (ks : Numbered KeptSession) (link : ℕ) → Stands hub from ks → BothAnswer (link_gone (kept_of hub from ks) link) (link_gone hub link)
gone-stands hub from ks link h =
    let entry = entries.LinkGone link in
    let both = offered-stands hub from ks entry (link_tells hub entry link refl brings_nothing h.sound.states) h in
    subst (λ k. BothAnswer k (link_gone hub link)) (sym (gone-offered (kept_of hub from ks) link))
    (subst (λ p. BothAnswer (as_going (kept_of hub from ks) (offered entry (kept_of hub from ks))) p) (sym (gone-offered hub link)) (ap is_made both.0, both.1))

pub goings_stand : GoingsStand
goings_stand k hub link h = with_kept (λ k. BothAnswer (link_gone k link) (link_gone hub link)) k hub h (gone-stands hub k.seen.number k.sessions link)

-- ---- `moment`

-- the timers of all sessions, on whatever is kept
timers-stand : (k : KeptHub) (hub : Hub) (n t : ℕ) → StandsFor k hub → StandsFor (each_session (timed keeping t) k) (each_session (timed (plain_keeps n) t) hub)
timers-stand k hub n t h =
    with_kept (λ k. StandsFor (each_session (timed keeping t) k) (each_session (timed (plain_keeps n) t) hub)) k hub h
    (each-stands hub k.seen.number k.sessions (timed keeping t) (timed (plain_keeps n) t) (ended_where-since (due keeping t)) (λ k p since s. timed-keeps hub n t k p s))

moment-stands : (hub : Hub) (from : ℕ) (ks : Numbered KeptSession) (t : ℕ) → Stands hub from ks → StandsFor (moment (kept_of hub from ks) t) (moment hub t)
moment-stands hub from ks t h = by (nat_lt (now hub) t && can_enter hub)
  where
    by : (b : Bool) → StandsFor (moment_as (kept_of hub from ks) t b) (moment_as hub t b)
    by true = timers-stand (entered_keeping (entries.Moment t) (kept_of hub from ks)) (entered_keeping (entries.Moment t) hub) (newest hub) t
        (keeping-stands hub from ks (entries.Moment t) (moment-tellable (state_now hub) t (tells-now hub from ks h)) h)
    by false = h

pub moments_stand : MomentsStand
moments_stand k hub t h = with_kept (λ k. StandsFor (moment k t) (moment hub t)) k hub h (moment-stands hub k.seen.number k.sessions t)

-- ---- `connect`

abbrev pub new_plain : Hub → Session
new_plain hub = new_session (plain_keeps (newest hub)) (now hub)

abbrev pub joining : Hub → KeptSession
joining hub = new_session keeping (now hub)

new-stands : (hub : Hub) (sessions : Numbered Session) → SessionFits (record hub { sessions = sessions; numbers_given = hub.numbers_given + 1 }) (hub.numbers_given, joining hub) (hub.numbers_given, new_plain hub)
new-stands hub sessions = of_parts (record hub { sessions = sessions; numbers_given = hub.numbers_given + 1 }) (hub.numbers_given, joining hub) (hub.numbers_given, new_plain hub) refl (omega arith) asks_nothing none_waits tt reads_nothing writes_nothing refl refl refl (λ closed. refl)

-- the numbers of sessions are below that of the next
none-next : (hub : Hub) (ps : Numbered Session) → AllByRecursion (IsSoundSession hub) ps → list_any (λ (p : ℕ × Session). p.0 == hub.numbers_given) ps ≡ false
none-next hub [] h = refl
none-next hub (p ∷ ps) h = λ i. apart h.0.below i || none-next hub ps h.1 i
  where
    apart : p.0 < hub.numbers_given → (p.0 == hub.numbers_given) ≡ false
    apart low = grind (arith, low)

abbrev joined : Hub → Hub
joined hub = record hub { sessions = hub.sessions ++ (hub.numbers_given, new_plain hub) ∷ []; numbers_given = hub.numbers_given + 1 }

joined-stands : (hub : Hub) (from : ℕ) (ks : Numbered KeptSession) → nat_lt (length hub.sessions) max_sessions ≡ true → Stands hub from ks → Stands (joined hub) from (ks ++ (hub.numbers_given, joining hub) ∷ [])
joined-stands hub from ks room h = record {
  sound = record {
    begins = h.sound.begins;
    states = h.sound.states;
    sessions = fits-sound (joined hub) later (joined hub).sessions fit;
    numbers = distinct_push (λ (d e : ℕ × Session). d.0 == e.0) hub.sessions (hub.numbers_given, new_plain hub) h.sound.numbers (none-next hub hub.sessions h.sound.sessions);
    few = let few = ltb-true (length hub.sessions) max_sessions room in let more = length-append hub.sessions ((hub.numbers_given, new_plain hub) ∷ []) in omega (arith, few, more);
  };
  timers = refl;
  numbers_given = refl;
  past = h.past;
  state = refl;
  newest = refl;
  since = each-append (WaitSince from) ks ((hub.numbers_given, joining hub) ∷ []) h.since (tt, tt);
  sessions = fits-stand (joined hub) later (joined hub).sessions fit;
}
  where
    later : Numbered KeptSession
    later = ks ++ (hub.numbers_given, joining hub) ∷ []

    fit : AllZip (SessionFits (joined hub)) later (joined hub).sessions
    fit =
        zip-push (SessionFits (joined hub)) ks hub.sessions (hub.numbers_given, joining hub) (hub.numbers_given, new_plain hub)
        (zip-all (SessionFits hub) (SessionFits (joined hub)) (session-moved hub (joined hub).sessions (hub.numbers_given + 1) (omega arith)) ks hub.sessions (fitting h))
        (new-stands hub (joined hub).sessions)

connect-stands : (hub : Hub) (from : ℕ) (ks : Numbered KeptSession) → Stands hub from ks → BothAnswer (connect (kept_of hub from ks)) (connect hub)
connect-stands hub from ks h =
    subst (λ n. BothAnswer (cond {A = Option ℕ × KeptHub} (nat_lt n max_sessions && nat_lt hub.numbers_given max_number) (Some hub.numbers_given, later) (None, kept_of hub from ks)) (connect hub)) (AllZip-long (SessionFits hub) ks hub.sessions (fitting h))
    (by (nat_lt (length hub.sessions) max_sessions) refl (nat_lt hub.numbers_given max_number))
  where
    later : KeptHub
    later = kept_of (joined hub) from (ks ++ (hub.numbers_given, joining hub) ∷ [])

    by : (a : Bool) → nat_lt (length hub.sessions) max_sessions ≡ a → (b : Bool)
        → BothAnswer (cond {A = Option ℕ × KeptHub} (a && b) (Some hub.numbers_given, later) (None, kept_of hub from ks)) (cond {A = Option ℕ × Hub} (a && b) (Some hub.numbers_given, joined hub) (None, hub))
    by true room true = (refl, joined-stands hub from ks room h)
    by true room false = (refl, h)
    by false room b = (refl, h)

pub connects_stand : ConnectsStand
connects_stand k hub h = with_kept (λ k. BothAnswer (connect k) (connect hub)) k hub h (connect-stands hub k.seen.number k.sessions)

-- ---- `take_octets`

room-same : (hub : Hub) (number : ℕ) (piece : List ℕ) (k : Option KeptSession) (p : Option Session) → FoundBoth hub number k p
    → elim k as (λ _. ℕ) [ None ↦ 0 | Some s ↦ min (length piece) (room_of s) ] ≡ elim p as (λ _. ℕ) [ None ↦ 0 | Some s ↦ min (length piece) (room_of s) ]
room-same hub number piece None None h = refl
room-same hub number piece None (Some p) h = absurd h
room-same hub number piece (Some k) None h = absurd h
room-same hub number piece (Some k) (Some p) h = λ i. min (length piece) (cond (is_open (h.stands.standing i)) (max_input - length (h.stands.input i)) 0)

pub takes_stand : TakesStand
takes_stand k hub number piece h octets = (
  room-same hub number piece (session_in number k.sessions) (session_in number hub.sessions) (both_found hub number k.sessions hub.sessions (fitting h)),
  with_kept (λ k. StandsFor (take_octets k number piece) (take_octets hub number piece)) k hub h (in-stands hub k.seen.number k.sessions (with_piece piece) (with_piece piece) (λ point session since. since) number (with_piece-keeps hub piece octets)),
)

-- ---- `stop`, `disconnect`

pub stops_stand : StopsStand
stops_stand k hub number rcode delay h =
    with_kept (λ k. StandsFor (stop k number rcode delay) (stop hub number rcode delay)) k hub h
    (in-stands hub k.seen.number k.sessions (asked_to_stop rcode delay) (asked_to_stop rcode delay) (asked_to_stop-since rcode delay) number (asked-keeps hub rcode delay))

end-stands : (hub : Hub) (from : ℕ) (ks : Numbered KeptSession) (number : ℕ) → Stands hub from ks → StandsFor (disconnect (kept_of hub from ks) number) (disconnect hub number)
end-stands hub from ks number h =
    with_sessions-stands hub from ks (without_session number ks) (without_session number hub.sessions) h
    (all_filter (WaitSince from) (λ e. not (e.0 == number)) ks h.since)
    (zip-filter (SessionFits hub) (λ (e : ℕ × KeptSession). not (e.0 == number)) others (λ k p s. ap (λ n. not (n == number)) s.stands.number) ks hub.sessions (fitting h))
    (distinct_filter (λ (d e : ℕ × Session). d.0 == e.0) others hub.sessions h.sound.numbers)
    (omega (arith, length-filter others hub.sessions, count_by-le-length others hub.sessions, h.sound.few))
  where
    others : ℕ × Session → Bool
    others e = not (e.0 == number)

pub ends_stand : EndsStand
ends_stand k hub number h = with_kept (λ k. StandsFor (disconnect k number) (disconnect hub number)) k hub h (end-stands hub k.seen.number k.sessions number)
