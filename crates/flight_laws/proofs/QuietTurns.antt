-- What is under way behind a call of `give` that reacts to no message.
--     ends-leave, packs-leave, stops-leave      of a session
--     quiet-gives      of the call
use Rattle.std.proofs.Common.{◌≡◌, ℕ, ◌<◌, ◌^◌, Bool, true, false, List, [], ◌∷◌, ◌++◌, map, length, take, Option, Some, None, option_map, ◌⊎◌, inl, inr, sym, ap, ◌∙◌, subst, refl, true≢false, arith}
use Rattle.std.specs.Prelude.{IsTrue, if◌then◌else◌}
use Rattle.std.proofs.lemmas.List.{append-nil, append_assoc}
use Rattle.push_base.specs.Cases.{is_empty}
use Rattle.dnsname.specs.Names.{Labels}
use Rattle.rrset.specs.RecordSet.{RecordSet, only, at_name}
use Rattle.dsotlv.specs.Messages.{frame, first_message}
use Rattle.dsotlv.specs.declared.message.Notice.{Notice}
use Rattle.coalesce.specs.Net.{net, packed_behind}
use Rattle.dsosession.specs.declared.session.EndReason.TheVariants as ends
use Rattle.history.specs.States.{State, records_at}
use Rattle.history.specs.declared.entry.Entry.{Entry}
use Rattle.pushsession.specs.declared.session_status.SessionStatus.{SessionStatus}
use Rattle.pushsession.specs.declared.session_status.SessionStatus.TheVariants.{Live, AskedToStop, Stopped, Ended}
use Rattle.pushsession.specs.Sessions.{is_open, copied, stopped, says_stop, ended_with}
use Rattle.pushsession.specs.Subscribing.{with_next_push, says_notices}
use Rattle.pushserver.specs.declared.given.Given.{Given}
use Rattle.pushserver.specs.declared.given.Given.TheVariants.{Nothing, Worked, Ending, End}
use Rattle.pushserver.specs.Hubs.{newest, now, keeps_now, tells_now, session_of, in_session}
use Rattle.pushserver.specs.Giving.{give, did, copies, copies_or, given_after, after_reaction, after_packing, works, by_standing, reacted}
use Rattle.pushserver.specs.PlainHubs.{Session, Subscription, Queue, Hub, Giving, asks_for, sent_of, shown_of, nets_of, told, note_of}
use Rattle.livesessions.proofs.SessionLists.{found-in}
use Rattle.pushclient.specs.Clients.{Client, Connection}
use Rattle.pushclient.specs.ServerMessages.{tells, delays, server_octets}
use Rattle.inflight.specs.Messages.{Flying, made_of, flying_octets}
use Rattle.inflight.specs.Ends.{BothEnds, ends_of, going_up, going_down, remembers}
use Rattle.inflight.specs.Flight.{InFlight, IsUnderWay}
use Rattle.flight_laws.specs.Laws.{flies}
use Rattle.flight_laws.specs.Turns.{EndsToldLeaveIt, PacksLeaveIt, StopsLeaveIt, notices_packed, CanBeTold, BehindGiving, ReactsToNone, StopFits, QuietGivesLeaveIt}
use Rattle.flight_laws.proofs.Ending.{sessions-end}
use Rattle.flight_laws.proofs.Passing.{came_out}
use Rattle.flight_laws.proofs.ToldEnds.{ends-told}
use Rattle.flight_laws.proofs.Granting.{pushes-given}
use Rattle.flight_laws.proofs.Stopping.{stops-written}
use Rattle.flight_laws.proofs.SaidDown.{said-comes-down}

-- ---- a PUSH tells something only where something is asked

none-wanted : (set : RecordSet) → only (asks_for []) set ≡ []
none-wanted [] = refl
none-wanted (e ∷ set) = none-wanted set

nothing-packed : (size : ℕ) (nets : Labels × ℕ → List Notice) (queue : Queue) → ((e : Labels × ℕ) → nets e ≡ []) → (packed_behind size (map (λ e. (e.0, nets e)) queue)).0 ≡ []
nothing-packed size nets [] none = refl
nothing-packed size nets (e ∷ queue) none = by (nets e) (none e) (nothing-packed size nets queue none)
  where
    by : (ns : List Notice) → ns ≡ [] → (packed_behind size (map (λ (e : Labels × ℕ). (e.0, nets e)) queue)).0 ≡ [] → (packed_behind size ((e.0, ns) ∷ map (λ (e : Labels × ℕ). (e.0, nets e)) queue)).0 ≡ []
    by [] is rest = rest
    by (n ∷ ns) is rest = absurd cc

some-asked : (start : State) (history : List Entry) (subscriptions : List Subscription) (queue : Queue) (n : Notice) (ns : List Notice) → (packed_behind 0 (nets_of start history subscriptions queue)).0 ≡ n ∷ ns → 0 < length subscriptions
some-asked start history (s ∷ ss) queue n ns h = omega arith
some-asked start history [] queue n ns h =
    let none : [] ≡ n ∷ ns = sym (nothing-packed 0 (λ e. net (sent_of start history [] queue e.0) (shown_of start history [] e.0)) queue no_net) ∙ h in
    absurd cc
  where
    no_net : (e : Labels × ℕ) → net (sent_of start history [] queue e.0) (shown_of start history [] e.0) ≡ []
    no_net e = λ i. net (none-wanted (at_name e.0 (records_at start history (told (record { queue = queue; newest = length history }) e.0))) i) (none-wanted (at_name e.0 (records_at start history (length history))) i)

-- ---- a session

pub ends-leave : EndsToldLeaveIt
ends-leave hub told session client c up_wire down_wire i = record {
  taken = i.taken;
  flying = i.flying;
  ups = i.ups;
  made = i.made;
  whole_down = i.whole_down;
  whole_up = i.whole_up;
  fit = ends-told (ends_of hub told session client c) i.taken i.flying i.ups i.fit;
}

-- octets behind an output go behind all that comes down
pub behind-output : (input wire output more : List ℕ) → input ++ (wire ++ (output ++ more)) ≡ (input ++ (wire ++ output)) ++ (more ++ [])
behind-output input wire output more =
    ap (λ x. input ++ x) (sym (append_assoc wire output more)) ∙ sym (append_assoc input (wire ++ output) more) ∙ ap (λ x. (input ++ (wire ++ output)) ++ x) (sym (append-nil more))

module _ (hub : Hub) (told : List (ℕ × ℕ)) (session : Session) (client : Client) (c : Connection) (up_wire down_wire : List ℕ) (i : IsUnderWay hub told session client c up_wire down_wire) where
  abbrev ends_now : BothEnds
  ends_now = ends_of hub told session client c

  -- one message more, and both ends then
  said-under-way : (f : Flying) (later : Session) → later.input ≡ session.input → later.made ≡ session.made ++ made_of hub.timers f ∷ [] → later.output ≡ session.output ++ frame (server_octets hub.timers f.says)
      → (InFlight (ends_of hub told later client c) (going_up session c up_wire) (going_down session c down_wire ++ flying_octets hub.timers (f ∷ [])))
      → IsUnderWay hub told later client c up_wire down_wire
  said-under-way f later same_input made output there =
      let up : going_up session c up_wire ≡ going_up later c up_wire = ap (λ x. x ++ (up_wire ++ c.output)) (sym same_input) in
      let down : going_down session c down_wire ++ flying_octets hub.timers (f ∷ []) ≡ going_down later c down_wire =
      sym (ap (λ x. c.input ++ (down_wire ++ x)) output ∙ behind-output c.input down_wire session.output (frame (server_octets hub.timers f.says))) in
      subst (λ d. InFlight (ends_of hub told later client c) (going_up later c up_wire) d) down
      (subst (λ u. InFlight (ends_of hub told later client c) u (going_down session c down_wire ++ flying_octets hub.timers (f ∷ []))) up there)

  -- ---- a PUSH

  module _ (going : IsTrue (is_open session.standing)) where
    abbrev pack : List Notice × Queue
    pack = (tells_now hub).packed session.subscriptions session.queue

    abbrev lighter : Session
    lighter = record session { queue = pack.1 }

    by-notices : (notices : List Notice) → notices_packed hub session ≡ notices → CanBeTold hub.timers notices → IsUnderWay hub told (says_notices (keeps_now hub) (now hub) notices lighter) client c up_wire down_wire
    by-notices [] is read = i
    by-notices (n ∷ ns) is read =
        let f : Flying = flies (tells (n ∷ ns)) (record { queue = pack.1; newest = newest hub }) session.subscriptions in
        let later : Session = says_notices (keeps_now hub) (now hub) (n ∷ ns) lighter in
        let fits = pushes-given ends_now i.taken i.flying i.ups (n ∷ ns) (record { queue = pack.1; newest = newest hub }) going (some-asked hub.start hub.history session.subscriptions session.queue n ns is) read i.fit in
        said-under-way f later refl refl refl (said-comes-down ends_now (ends_of hub told later client c) i.taken i.flying (f ∷ []) i.ups (going_up session c up_wire) (going_down session c down_wire)
        i.made i.whole_down refl refl i.whole_up fits)

    packed-leaves : CanBeTold hub.timers (notices_packed hub session) → IsUnderWay hub told (with_next_push (keeps_now hub) (tells_now hub) (now hub) session) client c up_wire down_wire
    packed-leaves read = by-notices (notices_packed hub session) refl read

  -- ---- a stop

  module _ (rcode delay : ℕ) (standing : session.standing ≡ AskedToStop rcode delay) (coded : rcode < 16) (short : delay < 2 ^ 32) where
    by-established : (b : Bool) → session.established ≡ b
        → IsUnderWay hub told (if b then says_stop (keeps_now hub) rcode delay (now hub) session else ended_with (keeps_now hub) ends.Stopped session) client c up_wire down_wire
    by-established false is = sessions-end hub ends.Stopped told session client c (going_up session c up_wire) (going_down session c down_wire) i
    by-established true is =
        let f : Flying = flies (delays rcode delay) (note_of (newest hub) session) session.subscriptions in
        let later : Session = says_stop (keeps_now hub) rcode delay (now hub) session in
        let going : IsTrue (is_open session.standing) = ap is_open standing in
        let fits = stops-written ends_now i.taken i.flying i.ups rcode delay (note_of (newest hub) session) going is coded short i.fit in
        said-under-way f later refl refl refl (said-comes-down ends_now (ends_of hub told later client c) i.taken i.flying (f ∷ []) i.ups (going_up session c up_wire) (going_down session c down_wire)
        i.made i.whole_down refl refl (λ goes_on. absurd (true≢false (sym goes_on))) fits)

    stopped-leaves : IsUnderWay hub told (stopped (keeps_now hub) rcode delay (now hub) session) client c up_wire down_wire
    stopped-leaves = by-established session.established refl

pub packs-leave : PacksLeaveIt
packs-leave hub told session client c up_wire down_wire going read i = packed-leaves hub told session client c up_wire down_wire i going read

pub stops-leave : StopsLeaveIt
stops-leave hub rcode delay told session client c up_wire down_wire standing coded short i = stopped-leaves hub told session client c up_wire down_wire i rcode delay standing coded short

-- ---- a call of `give`

module _ (number room : ℕ) (told : List (ℕ × ℕ)) (client : Client) (c : Connection) (up_wire down_wire : List ℕ) where
  abbrev Behind : Giving → Type 0
  Behind g = BehindGiving g number told client c up_wire down_wire

  module _ (hub : Hub) (session : Session) (there : session_of hub number ≡ Some session) (i : IsUnderWay hub told session client c up_wire down_wire) where
    -- nothing is handed out
    pub done : (given : Given) → Behind (did given hub)
    done given = record {
      later = session;
      there = there;
      flight = subst (λ wire. IsUnderWay hub (remembers session.subscriptions told) session client c up_wire wire) (sym (append-nil down_wire)) (ends-leave hub told session client c up_wire down_wire i);
    }

    -- what waits to go is handed on
    pub handed-on : Behind (copies number room session hub)
    handed-on = record {
      later = copied room session;
      there = found-in number (copied room) hub.sessions ∙ ap (option_map (copied room)) there;
      flight = ends-leave hub told (copied room session) client c up_wire (down_wire ++ take room session.output) (came_out hub told session client c down_wire (going_up session c up_wire) room i);
    }

    handed-or : (given : Given) → Behind (copies_or given number room session hub)
    handed-or given = by (is_empty session.output)
      where
        by : (b : Bool) → Behind (if b then did given hub else copies number room session hub)
        by true = done given
        by false = handed-on

    -- by the session that is there
    abbrev behind_packing : Option Session → Giving
    behind_packing None = did Nothing hub
    behind_packing (Some s) = copies_or Nothing number room s hub

    abbrev behind_reaction : Option Session → Giving
    behind_reaction None = did Worked hub
    behind_reaction (Some s) = copies_or (given_after s.standing) number room s hub

    pub behind-packing : Behind (after_packing number room hub)
    behind-packing = subst (λ o. Behind (behind_packing o)) (sym there) (handed-or Nothing)

    pub behind-reaction : Behind (after_reaction number room hub)
    behind-reaction = subst (λ o. Behind (behind_reaction o)) (sym there) (handed-or (given_after session.standing))

  module _ (hub : Hub) (session : Session) (there : session_of hub number ≡ Some session) (i : IsUnderWay hub told session client c up_wire down_wire) (read : CanBeTold hub.timers (notices_packed hub session)) where
    -- by the first message
    abbrev by_message : Option (List ℕ × List ℕ) → Giving
    by_message (Some found) = after_reaction number room (reacted found.0 number (in_session number (λ s. record s { input = found.1 }) hub))
    by_message None = after_packing number room (in_session number (with_next_push (keeps_now hub) (tells_now hub) (now hub)) hub)

    live : IsTrue (is_open session.standing) → first_message session.input ≡ None → Behind (works number room session hub)
    live going none =
        let later : Session = with_next_push (keeps_now hub) (tells_now hub) (now hub) session in
        let there_later = found-in number (with_next_push (keeps_now hub) (tells_now hub) (now hub)) hub.sessions ∙ ap (option_map (with_next_push (keeps_now hub) (tells_now hub) (now hub))) there in
        subst (λ o. Behind (by_message o)) (sym none)
        (behind-packing (in_session number (with_next_push (keeps_now hub) (tells_now hub) (now hub)) hub) later there_later (packs-leave hub told session client c up_wire down_wire going read i))

    by-standing : (standing : SessionStatus) → session.standing ≡ standing → ReactsToNone standing session → StopFits standing → Behind (by_standing standing number room session hub)
    by-standing Live is none fits = live (ap is_open is) none
    by-standing (AskedToStop rcode delay) is none fits =
        let stop : Session → Session = stopped (keeps_now hub) rcode delay (now hub) in
        behind-reaction (in_session number stop hub) (stop session) (found-in number stop hub.sessions ∙ ap (option_map stop) there)
        (stops-leave hub rcode delay told session client c up_wire down_wire is fits.0 fits.1 i)
    by-standing (Stopped since) is none fits = done hub session there i Ending
    by-standing (Ended reason) is none fits = done hub session there i (End reason)

    abbrev by_output : Bool → Giving
    by_output false = copies number room session hub
    by_output true = by_standing session.standing number room session hub

    abbrev by_session : Option Session → Giving
    by_session None = did (End ends.Gone) hub
    by_session (Some s) = elim (is_empty s.output) as (λ _. Giving) [ false ↦ copies number room s hub | true ↦ by_standing s.standing number room s hub ]

    quiet : (is_empty session.output ≡ false) ⊎ ReactsToNone session.standing session → StopFits session.standing → Behind (give hub number room)
    quiet none fits = subst (λ o. Behind (by_session o)) (sym there) (by (is_empty session.output) refl none)
      where
        by : (b : Bool) → is_empty session.output ≡ b → (is_empty session.output ≡ false) ⊎ ReactsToNone session.standing session → Behind (by_output b)
        by false is none = handed-on hub session there i
        by true is (inl some) = absurd (true≢false (sym is ∙ some))
        by true is (inr none) = by-standing session.standing refl none fits

pub quiet-gives : QuietGivesLeaveIt
quiet-gives hub number room told session client c up_wire down_wire there none fits read i = quiet number room told client c up_wire down_wire hub session there i read none fits
