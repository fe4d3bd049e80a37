-- Steps that leave what is under way fitting together.
--     NewConnectionsFit      a connection begins
--     OctetsPass      octets go on their way
--     TakesWithFewer      what a session takes it takes with fewer subscriptions, too, and once it is established
--     SoAlongOneMore      what is so along the messages that come down, with one more
--     KeepalivesFit, ReconfirmsFit      the client writes
--     WaitingOnesAreDropped, HeldOnesAreDropped, RefusedOnesAreDropped      the client drops a question whose answer it waits for, that it holds, or that was refused
--     FirstMessagesFit      the first message that comes down fits the client's state
--     DelaysAreTaken, GrantsAreTaken, PushesAreTaken, RefusalsAreTaken, AcceptedOnesAreHeld, AcceptedOnesAreEnded      the client takes the first message that comes down
--     EntriesLeaveIt, StopsAreAskedFor, SessionsEnd      an entry is made; the session is asked to stop, and ends
use Rattle.std.specs.Prelude.{◌≡◌, ℕ, true, not, ◌&&◌, ◌||◌, cond, List, [], ◌∷◌, ◌++◌, map, length, take, drop, find, Some, None, IsTrue, IsSome, nat_le, Bool, ◌==◌, if◌then◌else◌}
use Rattle.std.specs.List.{list_any, IsDistinct}
use Rattle.dnsname.specs.Names.{is_name}
use Rattle.rrset.specs.Rcodes.{notauth}
use Rattle.rrset.specs.Records.{same_question}
use Rattle.rrset.specs.declared.record.Changed.{Changed}
use Rattle.rrset.specs.declared.record.Question.{Question}
use Rattle.rrset.specs.declared.record.Rr.{Rr}
use Rattle.dsotlv.specs.declared.message.Notice.{Notice}
use Rattle.dsosession.specs.declared.session.EndReason.{EndReason}
use Rattle.history.specs.declared.entry.Entry.{Entry}
use Rattle.pushsession.specs.Sessions.{new_session, noted, asked_to_stop, ended_with}
use Rattle.pushserver.specs.Hubs.{keeps_now}
use Rattle.pushserver.specs.PlainHubs.{Session, Subscription, Note, Made, Hub}
use Rattle.pushclient.specs.Clients.{Client, Connection, Wish, refused, answered, without_wish, new_client, new_connection, reconfirm_message}
use Rattle.inflight.specs.Messages.{ClientMessage, unsubscribes, reconfirms, requests_keepalive, Flying, made_of, accepts_id}
use Rattle.inflight.specs.Ends.{BothEnds, ends_of, going_up, going_down, is_id, used_ids, all_taken_up}
use Rattle.inflight.specs.Flight.{FitsTogether, InFlight, is_so_along}
use Rattle.pushclient.specs.ServerMessages.{CanBeGranted, ServerMessage, accepts, refuses, grants, tells, delays}
use Rattle.pushclient.specs.FittingMessages.{Fits}
use Rattle.pushclient.specs.Rule.{dropped_wish, stood_wish}
use Rattle.pushclient.specs.SoundClients.{count_of}
use Rattle.pushclient.specs.Steps.{is_answered, is_unanswered}

-- ---- a connection begins

-- both ends before anything is asked
abbrev pub new_ends : Hub → ℕ → ℕ → BothEnds
new_ends hub opened connected = ends_of hub [] (new_session (keeps_now hub) opened) new_client (new_connection connected)

abbrev pub NewConnectionsFit : Type 0
NewConnectionsFit = (hub : Hub) (opened connected : ℕ) → CanBeGranted hub.timers → InFlight (new_ends hub opened connected) [] []

-- ---- octets go on their way

-- a front of the client's output onto the wire, of the wire into the session, of its output onto the other wire, and of that into the client
pub record OctetsPass : Type 0 where
  pub said : (hub : Hub) (told : List (ℕ × ℕ)) (session : Session) (client : Client) (c : Connection) (wire down : List ℕ) (k : ℕ)
      → let later : Connection = record c { output = drop k c.output } in
      InFlight (ends_of hub told session client c) (going_up session c wire) down
      → InFlight (ends_of hub told session client later) (going_up session later (wire ++ take k c.output)) down
  pub went_up : (hub : Hub) (told : List (ℕ × ℕ)) (session : Session) (client : Client) (c : Connection) (wire down : List ℕ) (k : ℕ)
      → let later : Session = record session { input = session.input ++ take k wire } in
      InFlight (ends_of hub told session client c) (going_up session c wire) down
      → InFlight (ends_of hub told later client c) (going_up later c (drop k wire)) down
  pub came_out : (hub : Hub) (told : List (ℕ × ℕ)) (session : Session) (client : Client) (c : Connection) (wire up : List ℕ) (k : ℕ)
      → let later : Session = record session { output = drop k session.output } in
      InFlight (ends_of hub told session client c) up (going_down session c wire)
      → InFlight (ends_of hub told later client c) up (going_down later c (wire ++ take k session.output))
  pub came_in : (hub : Hub) (told : List (ℕ × ℕ)) (session : Session) (client : Client) (c : Connection) (wire up : List ℕ) (k : ℕ)
      → let later : Connection = record c { input = c.input ++ take k wire } in
      InFlight (ends_of hub told session client c) up (going_down session c wire)
      → InFlight (ends_of hub told session client later) up (going_down session later (drop k wire))

-- ---- what a session takes

-- IDs with their questions
abbrev pub Active : Type 0
Active = List (ℕ × Question)

-- some of them, in their order
pub data IsPart : Active → Active → Type 0 where
  none : IsPart [] []
  kept : {a : ℕ × Question} {few many : Active} → IsPart few many → IsPart (a ∷ few) (a ∷ many)
  left : {a : ℕ × Question} {few many : Active} → IsPart few many → IsPart few (a ∷ many)

abbrev pub TakesWithFewer : Type 0
TakesWithFewer = (before after : Bool) → (before ≡ true → after ≡ true) → (few many : Active) → IsPart few many → (ups : List ClientMessage)
    → IsSome (all_taken_up before many ups) → IsSome (all_taken_up after few ups)

-- ---- one message more comes down

-- it is to be so of what was active when the last was made, if the client holds the subscription by then
abbrev pub SoAlongOneMore : Type 0
SoAlongOneMore = (so : List Subscription → Bool) (id : ℕ) (holds : Bool) (subscribed : List Subscription) (flying : List Flying) (f : Flying)
    → is_so_along so id holds subscribed (flying ++ f ∷ []) ≡ (is_so_along so id holds subscribed flying && (not (holds || list_any (λ g. accepts_id id g.says) (flying ++ f ∷ [])) || so f.subscribed))

-- ---- the client writes

-- the client's Keepalive with this ID is unanswered
abbrev pub with_keepalive : ℕ → BothEnds → BothEnds
with_keepalive id e = record e { keepalive_out = Some id; last_id = id }

-- with a free ID, where none is unanswered (RFC 8490, 7.1)
abbrev pub KeepalivesFit : Type 0
KeepalivesFit = (e : BothEnds) (taken : List Made) (flying : List Flying) (ups : List ClientMessage) (id : ℕ)
    → e.keepalive_out ≡ None → IsTrue (is_id id) → count_of id (used_ids e) ≡ 0
    → FitsTogether e taken flying ups → FitsTogether (with_keepalive id e) taken flying (ups ++ requests_keepalive id ∷ [])

-- an established client reconfirms a record that fits into a message (RFC 8765, 6.5.1)
abbrev pub ReconfirmsFit : Type 0
ReconfirmsFit = (e : BothEnds) (taken : List Made) (flying : List Flying) (ups : List ClientMessage) (rr : Rr)
    → IsTrue e.client_established → IsTrue (is_name rr.owner) → IsTrue (nat_le (length (reconfirm_message rr)) 65535)
    → FitsTogether e taken flying ups → FitsTogether e taken flying (ups ++ reconfirms rr ∷ [])

-- a question whose answer is waited for isn't wanted any more, and nothing is written (RFC 8765, 6.4)
abbrev pub with_dropped : Question → BothEnds → BothEnds
with_dropped question e = record e { wishes = map (dropped_wish question) e.wishes }

abbrev pub WaitingOnesAreDropped : Type 0
WaitingOnesAreDropped = (e : BothEnds) (taken : List Made) (flying : List Flying) (ups : List ClientMessage) (question : Question)
    → FitsTogether e taken flying ups → FitsTogether (with_dropped question e) taken flying ups

abbrev pub without_question : Question → BothEnds → BothEnds
without_question question e = record e { wishes = without_wish question e.wishes }

-- a question that is held goes, and an UNSUBSCRIBE ends its subscription (RFC 8765, 6.4)
abbrev pub HeldOnesAreDropped : Type 0
HeldOnesAreDropped = (e : BothEnds) (taken : List Made) (flying : List Flying) (ups : List ClientMessage) (question : Question) (wish : Wish) (id : ℕ)
    → find (λ w. same_question w.question question) e.wishes ≡ Some wish → wish.standing ≡ answered id
    → FitsTogether e taken flying ups → FitsTogether (without_question wish.question e) taken flying (ups ++ unsubscribes id ∷ [])

-- a question that was refused goes, and nothing is written
abbrev pub RefusedOnesAreDropped : Type 0
RefusedOnesAreDropped = (e : BothEnds) (taken : List Made) (flying : List Flying) (ups : List ClientMessage) (question : Question) (wish : Wish) (rcode : ℕ)
    → find (λ w. same_question w.question question) e.wishes ≡ Some wish → wish.standing ≡ refused rcode
    → FitsTogether e taken flying ups → FitsTogether (without_question wish.question e) taken flying ups

-- ---- the client takes the first message that comes down

-- the state in which it comes is one that it fits, so that none but Retry Delay closes
abbrev pub FirstMessagesFit : Type 0
FirstMessagesFit = (hub : Hub) (told : List (ℕ × ℕ)) (session : Session) (client : Client) (c : Connection) (taken : List Made) (f : Flying) (fs : List Flying) (ups : List ClientMessage)
    → FitsTogether (ends_of hub told session client c) taken (f ∷ fs) ups → Fits hub.timers f.says client c

abbrev pub flies : ServerMessage → Note → List Subscription → Flying
flies says note subscribed = record { says = says; note = note; subscribed = subscribed }

-- the Retry Delay of a session that doesn't go on (RFC 8490, 6.6.1)
abbrev pub DelaysAreTaken : Type 0
DelaysAreTaken = (e : BothEnds) (taken : List Made) (fs : List Flying) (ups : List ClientMessage) (rcode delay : ℕ) (note : Note) (subscribed : List Subscription)
    → let f = flies (delays rcode delay) note subscribed in
    FitsTogether e taken (f ∷ fs) ups → FitsTogether e (taken ++ made_of e.timers f ∷ []) fs ups

-- the client's Keepalive is answered, and it is established (RFC 8490, 5.1 and 7.1)
abbrev pub with_grant : BothEnds → BothEnds
with_grant e = record e { keepalive_out = None; client_established = true }

-- the answer comes to the Keepalive that waits
abbrev pub GrantsAreTaken : Type 0
GrantsAreTaken = (e : BothEnds) (taken : List Made) (fs : List Flying) (ups : List ClientMessage) (id : ℕ) (note : Note) (subscribed : List Subscription)
    → let f = flies (grants id) note subscribed in
    FitsTogether e taken (f ∷ fs) ups → (e.keepalive_out ≡ Some id) × FitsTogether (with_grant e) (taken ++ made_of e.timers f ∷ []) fs ups

-- notices go to each subscription that the client holds
abbrev pub with_notices : List Notice → BothEnds → BothEnds
with_notices notices e = record e { wishes = map (λ w. cond (is_answered w.standing) (record w { notices = w.notices ++ notices }) w) e.wishes }

-- a PUSH (RFC 8765, 6.3.1)
abbrev pub PushesAreTaken : Type 0
PushesAreTaken = (e : BothEnds) (taken : List Made) (fs : List Flying) (ups : List ClientMessage) (notices : List Notice) (note : Note) (subscribed : List Subscription)
    → let f = flies (tells notices) note subscribed in
    FitsTogether e taken (f ∷ fs) ups → FitsTogether (with_notices notices e) (taken ++ made_of e.timers f ∷ []) fs ups

-- the wish that waited stands refused where it is still wanted, and goes where it was dropped
abbrev pub with_refused : Wish → BothEnds → BothEnds
with_refused wish e = record e { wishes = if wish.wanted then map (stood_wish wish.question (refused notauth)) e.wishes else without_wish wish.question e.wishes }

-- the refusal comes to a wish that waits
abbrev pub RefusalsAreTaken : Type 0
RefusalsAreTaken = (e : BothEnds) (taken : List Made) (fs : List Flying) (ups : List ClientMessage) (id : ℕ) (note : Note) (subscribed : List Subscription)
    → let f = flies (refuses id) note subscribed in
    FitsTogether e taken (f ∷ fs) ups
    → (wish : Wish) × (find (λ w. is_unanswered id w.standing) e.wishes ≡ Some wish) × FitsTogether (with_refused wish e) (taken ++ made_of e.timers f ∷ []) fs ups

-- the wish that waited is held from now on with an empty set, and the client is established (RFC 8765, 6.2.2)
abbrev pub with_held : Wish → ℕ → BothEnds → BothEnds
with_held wish id e = record e { wishes = map (stood_wish wish.question (answered id)) e.wishes; client_established = true }

-- the wish that waited goes, and the client is established
abbrev pub with_ended : Wish → BothEnds → BothEnds
with_ended wish e = record e { wishes = without_wish wish.question e.wishes; client_established = true }

-- NOERROR comes to a wish that waits, and what is left fits if the client holds it from now on. It is so of any wish, here and in the next
-- law: which of the two the client does `StepsAreTaken` says. The IDs of active subscriptions differ.
abbrev pub AcceptedOnesAreHeld : Type 0
AcceptedOnesAreHeld = (e : BothEnds) (taken : List Made) (fs : List Flying) (ups : List ClientMessage) (id : ℕ) (note : Note) (subscribed : List Subscription)
    → let f = flies (accepts id) note subscribed in
    IsDistinct (λ s t. s.id == t.id) e.subscriptions → FitsTogether e taken (f ∷ fs) ups
    → (wish : Wish) × (find (λ w. is_unanswered id w.standing) e.wishes ≡ Some wish) × FitsTogether (with_held wish id e) (taken ++ made_of e.timers f ∷ []) fs ups

-- and what is left fits if the wish goes, and an UNSUBSCRIBE ends its subscription (RFC 8765, 6.4)
abbrev pub AcceptedOnesAreEnded : Type 0
AcceptedOnesAreEnded = (e : BothEnds) (taken : List Made) (fs : List Flying) (ups : List ClientMessage) (id : ℕ) (note : Note) (subscribed : List Subscription)
    → let f = flies (accepts id) note subscribed in
    IsDistinct (λ s t. s.id == t.id) e.subscriptions → FitsTogether e taken (f ∷ fs) ups
    → (wish : Wish) × (find (λ w. is_unanswered id w.standing) e.wishes ≡ Some wish) × FitsTogether (with_ended wish e) (taken ++ made_of e.timers f ∷ []) fs (ups ++ unsubscribes id ∷ [])

-- ---- entries, and the end of a session

-- an entry goes to the end of the history, and the names that it touches wait
abbrev pub EntriesLeaveIt : Type 0
EntriesLeaveIt = (hub : Hub) (entry : Entry) (changed : List Changed) (point : ℕ) (told : List (ℕ × ℕ)) (session : Session) (client : Client) (c : Connection) (up_wire down_wire : List ℕ)
    → let later : Session = noted (keeps_now hub) changed point session in
    InFlight (ends_of hub told session client c) (going_up session c up_wire) (going_down session c down_wire)
    → InFlight (ends_of (record hub { history = hub.history ++ entry ∷ [] }) told later client c) (going_up later c up_wire) (going_down later c down_wire)

abbrev pub SessionsEnd : Type 0
SessionsEnd = (hub : Hub) (reason : EndReason) (told : List (ℕ × ℕ)) (session : Session) (client : Client) (c : Connection) (up down : List ℕ)
    → InFlight (ends_of hub told session client c) up down → InFlight (ends_of hub told (ended_with (keeps_now hub) reason session) client c) up down

abbrev pub StopsAreAskedFor : Type 0
StopsAreAskedFor = (hub : Hub) (rcode delay : ℕ) (told : List (ℕ × ℕ)) (session : Session) (client : Client) (c : Connection) (up down : List ℕ)
    → InFlight (ends_of hub told session client c) up down → InFlight (ends_of hub told (asked_to_stop rcode delay session) client c) up down
