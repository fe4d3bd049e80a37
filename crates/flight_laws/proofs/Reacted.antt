-- What is under way when a session has reacted to the first message that came up.
--     reactions-leave, reconfirms-leave      by the kind of the message; a RECONFIRM, before the ends of first answers are told
use Rattle.std.proofs.Common.{◌≡◌, ℕ, ◌+◌, ◌<◌, Bool, true, false, not, List, [], ◌∷◌, ◌++◌, length, sym, ap, ◌∙◌, subst, refl, arith}
use Rattle.std.specs.Prelude.{IsTrue, flat_map, if◌then◌else◌}
use Rattle.std.proofs.lemmas.List.{length-append}
use Rattle.rrset.specs.Rcodes.{noerror, notauth}
use Rattle.rrset.specs.declared.record.Question.{Question}
use Rattle.rrset.specs.declared.record.Rr.{Rr}
use Rattle.dsotlv.specs.Answers.{answer_to, refusal_to}
use Rattle.dsotlv.specs.Messages.{frame}
use Rattle.dsotlv.specs.declared.message.Notice.{Notice}
use Rattle.dsosession.specs.Timing.{Clocks}
use Rattle.pushsession.specs.Sessions.{is_open, answers}
use Rattle.pushsession.specs.Subscribing.{with_accepted, subscribed, says_first_answer, first_answer_size}
use Rattle.pushserver.specs.Hubs.{newest, now, state_now, keeps_now, tells_now}
use Rattle.pushserver.specs.Giving.{is_served_at}
use Rattle.pushserver.specs.PlainHubs.{Session, Subscription, Note, Hub, first_answer, leaves_queue, note_of, written}
use Rattle.pushclient.specs.Clients.{Client, Connection}
use Rattle.pushclient.specs.ServerMessages.{accepts as accepting, refuses, grants, tells, server_octets}
use Rattle.inflight.specs.Messages.{ClientMessage, subscribes, unsubscribes, reconfirms, requests_keepalive, message_octets, Flying, made_of}
use Rattle.inflight.specs.Ends.{BothEnds, ends_of, going_up, going_down, remembers}
use Rattle.inflight.specs.Flight.{FitsTogether, InFlight, IsUnderWay}
use Rattle.flight_laws.specs.Laws.{flies}
use Rattle.flight_laws.specs.Reacting.{with_made, ServesAlike, subscription, with_subscription}
use Rattle.flight_laws.specs.Turns.{CanBeTold, reaction, Needs, ReactionsLeaveIt}
use Rattle.flight_laws.proofs.Granting.{keepalives-granted, reconfirms-taken, pushes-given}
use Rattle.flight_laws.proofs.Subscribed.{subscribes-accepted, subscribes-refused}
use Rattle.flight_laws.proofs.Unsubscribed.{subscriptions-ended}
use Rattle.flight_laws.proofs.Served.{hubs-serve-alike}
use Rattle.flight_laws.proofs.SaidDown.{more-made, more-octets, said-comes-down}
use Rattle.flight_laws.proofs.QuietTurns.{behind-output, ends-leave}

module _ (hub : Hub) (told : List (ℕ × ℕ)) (session : Session) (client : Client) (c : Connection) (up_wire down_wire : List ℕ) (others : List ClientMessage) (rest : List ℕ) (clocks : Clocks)
    (i : IsUnderWay hub told session client c up_wire down_wire) (going : IsTrue (is_open session.standing)) where
  abbrev before : Session
  before = record session { input = rest; clocks = clocks }

  abbrev ends_now : BothEnds
  ends_now = ends_of hub told session client c

  module _ (up : going_up before c up_wire ≡ flat_map (λ m. frame (message_octets m)) others) where
    -- nothing comes down
    in-silence : (later : Session) (told : List (ℕ × ℕ)) → later.made ≡ session.made → later.output ≡ session.output → later.input ≡ rest → FitsTogether (ends_of hub told later client c) i.taken i.flying others
        → IsUnderWay hub told later client c up_wire down_wire
    in-silence later told made output input fit = record {
      taken = i.taken;
      flying = i.flying;
      ups = others;
      made = made ∙ i.made;
      whole_down = ap (λ x. c.input ++ (down_wire ++ x)) output ∙ i.whole_down;
      whole_up = λ goes_on. ap (λ x. x ++ (up_wire ++ c.output)) input ∙ up;
      fit = fit;
    }

    -- one message comes down
    with-one : (later : Session) (told : List (ℕ × ℕ)) (f : Flying) → later.made ≡ session.made ++ made_of hub.timers f ∷ [] → later.output ≡ session.output ++ frame (server_octets hub.timers f.says) → later.input ≡ rest
        → FitsTogether (ends_of hub told later client c) i.taken (i.flying ++ f ∷ []) others → IsUnderWay hub told later client c up_wire down_wire
    with-one later told f made output input fit =
        let there = said-comes-down ends_now (ends_of hub told later client c) i.taken i.flying (f ∷ []) others (going_up later c up_wire) (going_down session c down_wire) i.made i.whole_down refl made
        (λ goes_on. ap (λ x. x ++ (up_wire ++ c.output)) input ∙ up) fit in
        subst (λ d. InFlight (ends_of hub told later client c) (going_up later c up_wire) d)
        (sym (ap (λ x. c.input ++ (down_wire ++ x)) output ∙ behind-output c.input down_wire session.output (frame (server_octets hub.timers f.says)))) there

    -- an answer to a SUBSCRIBE comes down, and a PUSH behind it
    with-two : (later : Session) (told_later : List (ℕ × ℕ)) (s : Subscription) (f g : Flying) → later.made ≡ (session.made ++ made_of hub.timers f ∷ []) ++ made_of hub.timers g ∷ []
        → later.output ≡ (session.output ++ frame (server_octets hub.timers f.says)) ++ frame (server_octets hub.timers g.says) → later.input ≡ rest
        → FitsTogether (ends_of hub told_later later client c) i.taken ((i.flying ++ f ∷ []) ++ g ∷ []) others → IsUnderWay hub told_later later client c up_wire down_wire
    with-two later told_later s f g made output input both =
        let first : BothEnds = with_made f (with_subscription s ends_now) in
        let up_now : going_up later c up_wire ≡ flat_map (λ m. frame (message_octets m)) others = ap (λ x. x ++ (up_wire ++ c.output)) input ∙ up in
        let two = said-comes-down first (ends_of hub told_later later client c) i.taken (i.flying ++ f ∷ []) (g ∷ []) others (going_up later c up_wire) (going_down session c down_wire ++ (frame (server_octets hub.timers f.says) ++ []))
        (more-made hub.timers session.made i.taken i.flying (f ∷ []) i.made) (more-octets hub.timers (going_down session c down_wire) i.flying (f ∷ []) i.whole_down) refl made (λ goes_on. up_now) both in
        subst (λ d. InFlight (ends_of hub told_later later client c) (going_up later c up_wire) d)
        (sym (ap (λ x. c.input ++ (down_wire ++ x)) output ∙ behind-output c.input down_wire (session.output ++ frame (server_octets hub.timers f.says)) (frame (server_octets hub.timers g.says))
        ∙ ap (λ x. x ++ (frame (server_octets hub.timers g.says) ++ [])) (behind-output c.input down_wire session.output (frame (server_octets hub.timers f.says))))) two

    -- a Keepalive
    keepalive : (id : ℕ) → FitsTogether ends_now i.taken i.flying (requests_keepalive id ∷ others) → IsUnderWay hub told (reaction hub (requests_keepalive id) before) client c up_wire down_wire
    keepalive id fit = with-one (reaction hub (requests_keepalive id) before) told (flies (grants id) (note_of (newest hub) session) session.subscriptions) refl refl refl
        (keepalives-granted ends_now i.taken i.flying others id (note_of (newest hub) session) going fit)

    -- a SUBSCRIBE
    module _ (id : ℕ) (question : Question) (fit : FitsTogether ends_now i.taken i.flying (subscribes id question ∷ others)) where
      alike : ServesAlike ends_now
      alike = hubs-serve-alike hub told session client c

      refused-leaves : IsTrue (not (is_served_at hub.start question)) → IsUnderWay hub told (answers (keeps_now hub) false (now hub) (refusal_to id notauth) before) client c up_wire down_wire
      refused-leaves unserved = with-one (answers (keeps_now hub) false (now hub) (refusal_to id notauth) before) told (flies (refuses id) (note_of (newest hub) session) session.subscriptions) refl refl refl
          (subscribes-refused ends_now i.taken i.flying others id question (note_of (newest hub) session) going alike unserved fit)

      module _ (served : IsTrue (is_served_at hub.start question)) where
        -- the session after it, by the notices that follow the answer
        abbrev end_behind : List Notice → ℕ
        end_behind notices = written session + first_answer_size (answer_to id noerror) notices

        abbrev accepted : List Notice → Session
        accepted notices = says_first_answer (keeps_now hub) (now hub) (answer_to id noerror) notices session.queue (subscribed (keeps_now hub) id question (end_behind notices) before)

        abbrev told_later : List Notice → List (ℕ × ℕ)
        told_later notices = remembers (accepted notices).subscriptions told

        by-notices : (notices : List Notice) → CanBeTold hub.timers notices → IsUnderWay hub (told_later notices) (accepted notices) client c up_wire down_wire
        by-notices [] read =
            let note : Note = record { queue = leaves_queue question.name session.queue; newest = newest hub } in
            with-one (accepted []) (told_later []) (flies (accepting id) note (session.subscriptions ++ subscription id question (end_behind []) ∷ [])) refl refl refl
            (subscribes-accepted ends_now i.taken i.flying others id question (end_behind []) note going alike served fit)
        by-notices (n ∷ ns) read =
            let s : Subscription = subscription id question (end_behind (n ∷ ns)) in
            let active : List Subscription = session.subscriptions ++ s ∷ [] in
            let f : Flying = flies (accepting id) (note_of (newest hub) session) active in
            let note : Note = record { queue = leaves_queue question.name session.queue; newest = newest hub } in
            let one = subscribes-accepted ends_now i.taken i.flying others id question (end_behind (n ∷ ns)) (note_of (newest hub) session) going alike served fit in
            let longer = length-append session.subscriptions (s ∷ []) in
            let some : 0 < length active = omega (arith, longer) in
            with-two (accepted (n ∷ ns)) (told_later (n ∷ ns)) s f (flies (tells (n ∷ ns)) note active) refl refl refl
            (pushes-given (with_made f (with_subscription s ends_now)) i.taken (i.flying ++ f ∷ []) others (n ∷ ns) note going some read one)

    -- an UNSUBSCRIBE
    unsubscribe : (id : ℕ) → FitsTogether ends_now i.taken i.flying (unsubscribes id ∷ others) → IsUnderWay hub told (reaction hub (unsubscribes id) before) client c up_wire down_wire
    unsubscribe id fit = in-silence (reaction hub (unsubscribes id) before) told refl refl refl (subscriptions-ended ends_now i.taken i.flying others id fit)

    -- a RECONFIRM
    reconfirm : (rr : Rr) → FitsTogether ends_now i.taken i.flying (reconfirms rr ∷ others) → IsUnderWay hub told before client c up_wire down_wire
    reconfirm rr fit = in-silence before told refl refl refl (reconfirms-taken ends_now i.taken i.flying others rr fit)

    -- ends of first answers are told with it
    told-too : (later : Session) → IsUnderWay hub told later client c up_wire down_wire → IsUnderWay hub (remembers later.subscriptions told) later client c up_wire down_wire
    told-too later under_way = ends-leave hub told later client c up_wire down_wire under_way

    -- by whether the question is served
    abbrev decided : ℕ → Question → Bool → Session
    decided id question b = if b then with_accepted (keeps_now hub) (tells_now hub) (now hub) id question before else answers (keeps_now hub) false (now hub) (refusal_to id notauth) before

    by-kind : (m : ClientMessage) → Needs hub m before → FitsTogether ends_now i.taken i.flying (m ∷ others) → IsUnderWay hub (remembers (reaction hub m before).subscriptions told) (reaction hub m before) client c up_wire down_wire
    by-kind (requests_keepalive id) needs fit = told-too (reaction hub (requests_keepalive id) before) (keepalive id fit)
    by-kind (unsubscribes id) needs fit = told-too (reaction hub (unsubscribes id) before) (unsubscribe id fit)
    by-kind (reconfirms rr) needs fit = told-too before (reconfirm rr fit)
    by-kind (subscribes id question) needs fit = by (is_served_at (state_now hub) question) refl
      where
        by : (b : Bool) → is_served_at (state_now hub) question ≡ b → IsUnderWay hub (remembers (decided id question b).subscriptions told) (decided id question b) client c up_wire down_wire
        by true is = by-notices id question fit (sym needs.0 ∙ is) (first_answer hub before question) needs.1
        by false is = told-too (decided id question false) (refused-leaves id question fit (ap not (sym needs.0 ∙ is)))

-- a RECONFIRM, before the ends of first answers are told
pub reconfirms-leave : (hub : Hub) (told : List (ℕ × ℕ)) (session : Session) (client : Client) (c : Connection) (up_wire down_wire : List ℕ) (rr : Rr) (others : List ClientMessage) (rest : List ℕ) (clocks : Clocks)
    → let before : Session = record session { input = rest; clocks = clocks } in
    (i : IsUnderWay hub told session client c up_wire down_wire)
    → IsTrue (is_open session.standing) → i.ups ≡ reconfirms rr ∷ others → going_up before c up_wire ≡ flat_map (λ m. frame (message_octets m)) others
    → IsUnderWay hub told before client c up_wire down_wire
reconfirms-leave hub told session client c up_wire down_wire rr others rest clocks i going ups up =
    reconfirm hub told session client c up_wire down_wire others rest clocks i going up rr (subst (λ (l : List ClientMessage). FitsTogether (ends_of hub told session client c) i.taken i.flying l) ups i.fit)

pub reactions-leave : ReactionsLeaveIt
reactions-leave hub told session client c up_wire down_wire m others rest clocks i going needs ups up =
    by-kind hub told session client c up_wire down_wire others rest clocks i going up m needs (subst (λ (l : List ClientMessage). FitsTogether (ends_of hub told session client c) i.taken i.flying l) ups i.fit)
