-- The steps of a session that goes on: it reacts to the first message that comes up, tells what changed, and stops. Each leaves what is under way fitting together.
--     with_made      a session made one message more
--     KeepalivesAreGranted      it answers a Keepalive
--     SubscribesAreAccepted, SubscribesAreRefused      it answers a SUBSCRIBE of a question that is served, and of one that isn't
--     SubscriptionsAreEnded, ReconfirmsAreTaken      it takes an UNSUBSCRIBE, and a RECONFIRM
--     PushesAreGiven, NamesLeaveUnsent      it gives a PUSH, and lets names go unsent
--     EndsAreTold      what was told of first answers is told again
--     StopsAreWritten      it writes its Retry Delay
--     SaidComesDown      what was said, in octets
use Rattle.std.specs.Prelude.{◌≡◌, ℕ, ◌<◌, ◌^◌, true, false, not, List, [], ◌∷◌, ◌++◌, map, length, filter, flat_map, IsTrue, ◌==◌}
use Rattle.rrset.specs.Records.{same_question}
use Rattle.rrset.specs.declared.record.Question.{Question}
use Rattle.rrset.specs.declared.record.Rr.{Rr}
use Rattle.dsotlv.specs.Messages.{frame}
use Rattle.dsotlv.specs.declared.message.Notice.{Notice}
use Rattle.history.specs.AtHome.{AreAtHome}
use Rattle.pushserver.specs.Giving.{is_served_at}
use Rattle.pushserver.specs.Hubs.{state_now}
use Rattle.pushserver.specs.PlainHubs.{Session, Subscription, Queue, Note, Made, Hub}
use Rattle.pushclient.specs.Clients.{Client, Connection}
use Rattle.pushclient.specs.ServerMessages.{accepts, refuses, grants, tells, delays}
use Rattle.inflight.specs.Messages.{ClientMessage, subscribes, unsubscribes, reconfirms, requests_keepalive, message_octets, Flying, made_of, flying_octets, CanBeRead}
use Rattle.inflight.specs.Ends.{BothEnds, ends_of, going_up, going_down, remembers}
use Rattle.inflight.specs.Flight.{FitsTogether, InFlight}
use Rattle.flight_laws.specs.Laws.{flies}

-- the session made this message, too
abbrev pub with_made : Flying → BothEnds → BothEnds
with_made f e = record e { made = e.made ++ made_of e.timers f ∷ [] }

-- ---- it reacts to the first message that comes up

-- a Keepalive is answered, and the session is established (RFC 8490, 5.1 and 7.1)
abbrev pub KeepalivesAreGranted : Type 0
KeepalivesAreGranted = (e : BothEnds) (taken : List Made) (flying : List Flying) (ups : List ClientMessage) (id : ℕ) (note : Note)
    → let f = flies (grants id) note e.subscriptions in
    IsTrue e.goes_on → FitsTogether e taken flying (requests_keepalive id ∷ ups)
    → FitsTogether (with_made f (record e { established = true })) taken (flying ++ f ∷ []) ups

-- two spellings of one question are both served, or neither is
abbrev pub ServesAlike : BothEnds → Type 0
ServesAlike e = (p q : Question) → same_question p q ≡ true → e.serves p ≡ e.serves q

-- so it is where the hub's start says which questions are served
abbrev pub HubsServeAlike : Type 0
HubsServeAlike = (hub : Hub) (told : List (ℕ × ℕ)) (session : Session) (client : Client) (c : Connection) → ServesAlike (ends_of hub told session client c)

-- and what is served stays so: no entry moves a home (RFC 1034, 4.3.2)
abbrev pub HomesStay : Type 0
HomesStay = (hub : Hub) (question : Question) → AreAtHome hub.start → is_served_at (state_now hub) question ≡ is_served_at hub.start question

abbrev pub subscription : ℕ → Question → ℕ → Subscription
subscription id question filled = record { id = id; question = question; filled = filled }

-- one more subscription, the last, the end of whose first answer is told; the session is established (RFC 8765, 6.2.2; RFC 8490, 5.1)
abbrev pub with_subscription : Subscription → BothEnds → BothEnds
with_subscription s e = record e {
  subscriptions = e.subscriptions ++ s ∷ [];
  established = true;
  told = remembers (e.subscriptions ++ s ∷ []) e.told;
}

-- NOERROR, made when the new subscription is active
abbrev pub SubscribesAreAccepted : Type 0
SubscribesAreAccepted = (e : BothEnds) (taken : List Made) (flying : List Flying) (ups : List ClientMessage) (id : ℕ) (question : Question) (filled : ℕ) (note : Note)
    → let s = subscription id question filled in
    let f = flies (accepts id) note (e.subscriptions ++ s ∷ []) in
    IsTrue e.goes_on → ServesAlike e → IsTrue (e.serves question) → FitsTogether e taken flying (subscribes id question ∷ ups)
    → FitsTogether (with_made f (with_subscription s e)) taken (flying ++ f ∷ []) ups

-- NOTAUTH, and nothing else (RFC 8765, 6.2.2); a refusal establishes no session (RFC 8490, 5.1)
abbrev pub SubscribesAreRefused : Type 0
SubscribesAreRefused = (e : BothEnds) (taken : List Made) (flying : List Flying) (ups : List ClientMessage) (id : ℕ) (question : Question) (note : Note)
    → let f = flies (refuses id) note e.subscriptions in
    IsTrue e.goes_on → ServesAlike e → IsTrue (not (e.serves question)) → FitsTogether e taken flying (subscribes id question ∷ ups)
    → FitsTogether (with_made f e) taken (flying ++ f ∷ []) ups

-- the subscription with this ID goes (RFC 8765, 6.4)
abbrev pub without_subscription : ℕ → BothEnds → BothEnds
without_subscription id e = record e { subscriptions = filter (λ s. not (s.id == id)) e.subscriptions }

abbrev pub SubscriptionsAreEnded : Type 0
SubscriptionsAreEnded = (e : BothEnds) (taken : List Made) (flying : List Flying) (ups : List ClientMessage) (id : ℕ)
    → FitsTogether e taken flying (unsubscribes id ∷ ups) → FitsTogether (without_subscription id e) taken flying ups

-- nothing is known of it at both ends (RFC 8765, 6.5)
abbrev pub ReconfirmsAreTaken : Type 0
ReconfirmsAreTaken = (e : BothEnds) (taken : List Made) (flying : List Flying) (ups : List ClientMessage) (rr : Rr)
    → FitsTogether e taken flying (reconfirms rr ∷ ups) → FitsTogether e taken flying ups

-- ---- it tells what changed

-- a PUSH that can be read, while something is asked (RFC 8765, 6.3)
abbrev pub PushesAreGiven : Type 0
PushesAreGiven = (e : BothEnds) (taken : List Made) (flying : List Flying) (ups : List ClientMessage) (notices : List Notice) (note : Note)
    → let f = flies (tells notices) note e.subscriptions in
    IsTrue e.goes_on → 0 < length e.subscriptions → CanBeRead e.timers f → FitsTogether e taken flying ups
    → FitsTogether (with_made f e) taken (flying ++ f ∷ []) ups

-- the names that wait aren't known at both ends
abbrev pub NamesLeaveUnsent : Type 0
NamesLeaveUnsent = (hub : Hub) (queue : Queue) (told : List (ℕ × ℕ)) (session : Session) (client : Client) (c : Connection) (up_wire down_wire : List ℕ)
    → let later : Session = record session { queue = queue } in
    InFlight (ends_of hub told session client c) (going_up session c up_wire) (going_down session c down_wire)
    → InFlight (ends_of hub told later client c) (going_up later c up_wire) (going_down later c down_wire)

-- with octets handed out the ends of the first answers of what is active are told again, which changes nothing
abbrev pub EndsAreTold : Type 0
EndsAreTold = (e : BothEnds) (taken : List Made) (flying : List Flying) (ups : List ClientMessage)
    → FitsTogether e taken flying ups → FitsTogether (record e { told = remembers e.subscriptions e.told }) taken flying ups

-- ---- it stops

-- nothing is asked any more, and nothing more is taken
abbrev pub with_stop : BothEnds → BothEnds
with_stop e = record e { subscriptions = []; goes_on = false }

-- the Retry Delay of an established session, made while its subscriptions were active (RFC 8490, 6.6.1)
abbrev pub StopsAreWritten : Type 0
StopsAreWritten = (e : BothEnds) (taken : List Made) (flying : List Flying) (ups : List ClientMessage) (rcode delay : ℕ) (note : Note)
    → let f = flies (delays rcode delay) note e.subscriptions in
    IsTrue e.goes_on → IsTrue e.established → rcode < 16 → delay < 2 ^ 32 → FitsTogether e taken flying ups
    → FitsTogether (with_made f (with_stop e)) taken (flying ++ f ∷ []) ups

-- ---- in octets

-- whole messages that the session made go behind those that come down
abbrev pub SaidComesDown : Type 0
SaidComesDown = (e later : BothEnds) (taken : List Made) (flying said : List Flying) (ups : List ClientMessage) (up down : List ℕ)
    → e.made ≡ taken ++ map (made_of e.timers) flying → down ≡ flying_octets e.timers flying
    → later.timers ≡ e.timers → later.made ≡ e.made ++ map (made_of e.timers) said → (IsTrue later.goes_on → up ≡ flat_map (λ m. frame (message_octets m)) ups)
    → FitsTogether later taken (flying ++ said) ups → InFlight later up (down ++ flying_octets e.timers said)
