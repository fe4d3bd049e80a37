-- What is under way between a client and its session, both ways: an invariant on lists, which steps are to keep. The crate flight_laws has those that are proved.
--     InFlight ends up down      whole messages are under way, and they fit what both ends know
--     IsUnderWay      the same of a session and a client over two wires
--     FitsTogether ends taken flying ups      the same over messages
--     FirstAnswersEnd session      the first answers end where messages do
use Rattle.std.specs.Prelude.{◌≡◌, ℕ, ◌+◌, ◌≤◌, Bool, true, false, not, ◌&&◌, ◌||◌, List, [], ◌∷◌, ◌++◌, map, length, take, flat_map, IsSome, IsTrue, ◌==◌}
use Rattle.std.specs.List.{list_any, AllByRecursion, IsDistinct}
use Rattle.push_base.specs.Limits.{max_questions}
use Rattle.rrset.specs.Records.{same_question}
use Rattle.rrset.specs.declared.record.Question.{Question}
use Rattle.dsotlv.specs.Messages.{frame}
use Rattle.pushserver.specs.PlainHubs.{Hub, Session, Subscription, Made, size_of_made, asked_of}
use Rattle.pushserver.specs.ToldMessages.{notices_since}
use Rattle.pushclient.specs.Clients.{Client, Connection, Wish, unanswered, refused, answered}
use Rattle.inflight.specs.Messages.{ClientMessage, message_octets, request_ids, unsubscribed_ids, unsubscribes_id, Flying, made_of, flying_octets, CanBeRead, answer_ids, accepts_id, is_refusal, answer_comes_first}
use Rattle.inflight.specs.Ends.{BothEnds, ends_of, going_up, going_down, is_id, is_question, is_held_with, is_unanswered_as, is_answered_as, unanswered_ids, used_ids, is_requested, fits_request, is_active_as, is_told, subscribed_at_last, all_taken_up}
use Rattle.pushclient.specs.ServerMessages.{CanBeGranted, accepts}
use Rattle.pushclient.specs.FittingMessages.{is_delay}
use Rattle.pushclient.specs.SoundClients.{count_of, is_asked}
use Rattle.pushclient.specs.Steps.{is_answered}

-- ---- the client alone

-- at most 1,024 different questions, within bounds
pub record AreSoundWishes (wishes : List Wish) : Type 0 where
  pub few : length wishes ≤ max_questions
  pub questions : IsDistinct (λ v w. same_question v.question w.question) wishes
  pub fit : AllByRecursion (λ w. IsTrue (is_question w.question)) wishes

pub record IsSoundClient (e : BothEnds) : Type 0 where
  pub wishes : AreSoundWishes e.wishes
  -- IDs are numbers from 1 to 65,535, and none is in use twice (RFC 8490, 5.4.1)
  pub ids : AllByRecursion (λ id. IsTrue (is_id id)) (used_ids e)
  pub distinct : (id : ℕ) → count_of id (used_ids e) ≤ 1
  pub last : e.last_id ≤ 65535
  -- each wish was asked on this connection
  pub asked : AllByRecursion (λ w. IsTrue (is_asked w.standing)) e.wishes
  -- a client that holds a subscription is established (RFC 8490, 5.1)
  pub begun : AllByRecursion (λ w. IsTrue (not (is_answered w.standing) || e.client_established)) e.wishes

-- ---- what comes down, whether the session goes on or not

-- what the client took of a subscription that it holds is what was made for it since its answer
abbrev pub TookNotices : List Made → Wish → Type 0
TookNotices taken w = elim w.standing as (λ _. Type 0) [ answered id ↦ w.notices ≡ notices_since id taken | _ ↦ Unit {0} ]

-- a subscription is active with this ID and question, and the end of its first answer is as it was told
abbrev pub is_listed : List (ℕ × ℕ) → ℕ → Question → List Subscription → Bool
is_listed told id question subscribed = list_any (λ s. is_active_as id question s && is_told told s) subscribed

-- From one message on: each was made while this was so of the active subscriptions, if the client holds the one with this ID,
-- or will by its NOERROR answer, which is among the messages up to it.
abbrev pub is_so_along : (List Subscription → Bool) → ℕ → Bool → List Subscription → List Flying → Bool
is_so_along so id holds subscribed [] = not holds || so subscribed
is_so_along so id holds subscribed (f ∷ fs) = (not holds || so subscribed) && is_so_along so id (holds || accepts_id id f.says) f.subscribed fs

-- the last message that the client took, and each that comes down, lists the subscription that it holds by then
abbrev pub is_seen : List (ℕ × ℕ) → List Made → List Flying → Wish → Bool
is_seen told taken flying w = elim w.standing [
  | answered id ↦ is_so_along (is_listed told id w.question) id true (subscribed_at_last taken) flying
  | unanswered id ↦ is_so_along (is_listed told id w.question) id false (subscribed_at_last taken) flying
  | _ ↦ true
]

-- a question that was refused isn't served
abbrev pub is_homeless : BothEnds → Wish → Bool
is_homeless e w = elim w.standing [ refused rcode ↦ not (e.serves w.question) | _ ↦ true ]

pub record Downward (e : BothEnds) (taken : List Made) (flying : List Flying) : Type 0 where
  pub readable : AllByRecursion (CanBeRead e.timers) flying
  -- each answer is to a request of its kind that waits with its ID, and to no other
  pub fits : AllByRecursion (λ f. IsTrue (fits_request e f.says)) flying
  pub awaited : (id : ℕ) → count_of id (answer_ids flying) ≤ count_of id (unanswered_ids e)
  pub notices : AllByRecursion (TookNotices taken) e.wishes
  pub seen : AllByRecursion (λ w. IsTrue (is_seen e.told taken flying w)) e.wishes
  -- of each active subscription the end of its first answer was told
  pub told : AllByRecursion (λ s. IsTrue (is_told e.told s)) e.subscriptions
  pub homeless : AllByRecursion (λ w. IsTrue (is_homeless e w)) e.wishes
  -- a client is established after its session, and a session that isn't only refuses; once it is, the client will be by the
  -- first answer, before it is told anything (RFC 8490, 5.1)
  pub established : IsTrue (not e.client_established || e.established)
  pub speaks : AllByRecursion (λ f. IsTrue (e.established || is_refusal f.says)) flying
  pub first : IsTrue (not e.established || e.client_established || answer_comes_first (map (λ f. f.says) flying))

-- ---- what goes up, while the session goes on

-- the subscription that is accepted is active, with the question of the wish that waits for it
abbrev pub is_active_answer : BothEnds → Flying → Bool
is_active_answer e f = elim f.says [ accepts id ↦ list_any (λ s. s.id == id && list_any (is_unanswered_as id s.question) e.wishes) e.subscriptions | _ ↦ true ]

-- a subscription that an UNSUBSCRIBE ends is active, the client doesn't hold it, and no answer to it comes down
abbrev pub is_let_go : BothEnds → List Flying → ℕ → Bool
is_let_go e flying id =
    list_any (λ s. s.id == id) e.subscriptions
    && not (list_any (λ w. is_held_with id w.standing) e.wishes)
    && not (list_any (λ f. accepts_id id f.says) flying)

-- what the client holds is active
abbrev pub is_held_active : BothEnds → Wish → Bool
is_held_active e w = elim w.standing [ answered id ↦ list_any (is_active_as id w.question) e.subscriptions | _ ↦ true ]

-- the client holds what is active, or will by an answer that comes down, or has ended it by a message that goes up
abbrev pub is_accounted_for : BothEnds → List Flying → List ClientMessage → Subscription → Bool
is_accounted_for e flying ups s =
    list_any (is_answered_as s.id s.question) e.wishes || list_any (λ f. accepts_id s.id f.says) flying || list_any (unsubscribes_id s.id) ups

pub record Upward (e : BothEnds) (flying : List Flying) (ups : List ClientMessage) : Type 0 where
  -- each unanswered request stands once, on its way up or as an answer on its way down
  pub once : (id : ℕ) → count_of id (unanswered_ids e) ≡ count_of id (request_ids ups) + count_of id (answer_ids flying)
  pub requests : AllByRecursion (λ m. IsTrue (is_requested e m)) ups
  pub answers : AllByRecursion (λ f. IsTrue (is_active_answer e f)) flying
  pub let_go : AllByRecursion (λ id. IsTrue (is_let_go e flying id)) (unsubscribed_ids ups)
  pub let_go_once : (id : ℕ) → count_of id (unsubscribed_ids ups) ≤ 1
  pub held : AllByRecursion (λ w. IsTrue (is_held_active e w)) e.wishes
  pub active : AllByRecursion (λ s. IsTrue (is_accounted_for e flying ups s)) e.subscriptions
  -- no request on its way up is refused for another cause than its home or its class, and none ends the session
  pub accepted : IsSome (all_taken_up e.established (asked_of e.subscriptions) ups)
  -- a Retry Delay is the last word of a session (RFC 8490, 6.6.1)
  pub no_delay : AllByRecursion (λ f. IsTrue (not (is_delay f.says))) flying

-- ---- both ways

pub record FitsTogether (e : BothEnds) (taken : List Made) (flying : List Flying) (ups : List ClientMessage) : Type 0 where
  pub timers : CanBeGranted e.timers
  pub client : IsSoundClient e
  pub down : Downward e taken flying
  pub up : IsTrue e.goes_on → Upward e flying ups

-- whole messages are under way: those that come down follow those that the client took
pub record InFlight (e : BothEnds) (up down : List ℕ) : Type 0 where
  pub taken : List Made
  pub flying : List Flying
  pub ups : List ClientMessage
  pub made : e.made ≡ taken ++ map (made_of e.timers) flying
  pub whole_down : down ≡ flying_octets e.timers flying
  pub whole_up : IsTrue e.goes_on → up ≡ flat_map (λ m. frame (message_octets m)) ups
  pub fit : FitsTogether e taken flying ups

-- between a session and a client with a connection, over a wire up and a wire down
abbrev pub IsUnderWay : Hub → List (ℕ × ℕ) → Session → Client → Connection → List ℕ → List ℕ → Type 0
IsUnderWay hub told session client c up_wire down_wire = InFlight (ends_of hub told session client c) (going_up session c up_wire) (going_down session c down_wire)

-- ---- the ends of first answers

-- the octets of the first so many messages
abbrev pub EndsAMessage : List Made → ℕ → Type 0
EndsAMessage made n = (k : ℕ) × (n ≡ size_of_made (take k made))

-- each first answer, of those that are active and of those that were when a message was made, ends where a message does
pub record FirstAnswersEnd (session : Session) : Type 0 where
  pub active : AllByRecursion (λ s. EndsAMessage session.made s.filled) session.subscriptions
  pub before : AllByRecursion (λ m. AllByRecursion (λ s. EndsAMessage session.made s.filled) m.subscribed) session.made
