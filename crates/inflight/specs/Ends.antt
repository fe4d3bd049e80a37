-- What both ends of a connection know, and what each of them has to know of a message.
--     BothEnds, ends_of      what either end knows, without the octets under way
--     used_ids, unanswered_ids      the client's IDs
--     all_taken_up      what is active after messages are taken, or nothing where one is refused or ends the session
use Rattle.std.specs.Prelude.{ℕ, Bool, true, false, not, ◌&&◌, ◌||◌, List, [], ◌∷◌, ◌++◌, map, length, filter, find, flat_map, Option, Some, None, nat_le, ◌==◌, option_map, option_to_list, if◌then◌else◌}
use Rattle.std.specs.List.{list_any}
use Rattle.push_base.specs.Limits.{max_questions}
use Rattle.dnsname.specs.Names.{is_name}
use Rattle.rrset.specs.Records.{same_question}
use Rattle.rrset.specs.declared.record.Question.{Question}
use Rattle.dsosession.specs.declared.session.Timers.{Timers}
use Rattle.pushsession.specs.Sessions.{is_open}
use Rattle.pushserver.specs.Giving.{is_served_at}
use Rattle.pushserver.specs.PlainHubs.{Session, Subscription, Made, Hub}
use Rattle.pushclient.specs.Clients.{Client, Connection, Wish, RequestState, unanswered, answered, reconfirm_message}
use Rattle.inflight.specs.Messages.{ClientMessage, subscribes, unsubscribes, reconfirms, requests_keepalive}
use Rattle.pushclient.specs.ServerMessages.{ServerMessage, accepts, refuses, grants}
use Rattle.pushclient.specs.Steps.{is_unanswered}

-- what either end of a connection knows, without the octets under way
pub record BothEnds : Type 0 where
  -- the server: the numbers that it grants, and the questions that it serves
  pub timers : Timers
  pub serves : Question → Bool
  -- the session: what it made, its subscriptions, whether it is established and goes on
  pub made : List Made
  pub subscriptions : List Subscription
  pub established : Bool
  pub goes_on : Bool
  -- the client: its wishes, the last ID that it took, its unanswered Keepalive, whether it is established
  pub wishes : List Wish
  pub last_id : ℕ
  pub keepalive_out : Option ℕ
  pub client_established : Bool
  -- with the octets that were handed out it was told behind how many of them the first answer of a subscription ends
  pub told : List (ℕ × ℕ)

abbrev pub ends_of : Hub → List (ℕ × ℕ) → Session → Client → Connection → BothEnds
ends_of hub told session client c = record {
  timers = hub.timers;
  serves = is_served_at hub.start;
  made = session.made;
  subscriptions = session.subscriptions;
  established = session.established;
  goes_on = is_open session.standing;
  wishes = client.wishes;
  last_id = c.last_id;
  keepalive_out = c.keepalive_out;
  client_established = c.established;
  told = told;
}

-- ---- the octets on their way, the oldest first

abbrev pub going_up : Session → Connection → List ℕ → List ℕ
going_up session c wire = session.input ++ (wire ++ c.output)

abbrev pub going_down : Session → Connection → List ℕ → List ℕ
going_down session c wire = c.input ++ (wire ++ session.output)

-- ---- the client

abbrev pub is_id : ℕ → Bool
is_id id = nat_le 1 id && nat_le id 65535

-- a name within the bounds, and two numbers of 16 bits
abbrev pub is_question : Question → Bool
is_question q = is_name q.name && nat_le q.kind 65535 && nat_le q.class 65535

-- a wish waits for the answer to its request, or is held by its answer
abbrev pub unanswered_id : RequestState → List ℕ
unanswered_id (unanswered id) = id ∷ []
unanswered_id _ = []

abbrev pub answered_id : RequestState → List ℕ
answered_id (answered id) = id ∷ []
answered_id _ = []

abbrev pub is_held_with : ℕ → RequestState → Bool
is_held_with id (answered other) = id == other
is_held_with id _ = false

abbrev pub is_unanswered_as : ℕ → Question → Wish → Bool
is_unanswered_as id question w = is_unanswered id w.standing && same_question question w.question

abbrev pub is_answered_as : ℕ → Question → Wish → Bool
is_answered_as id question w = is_held_with id w.standing && same_question question w.question

-- the IDs of a client's unanswered requests; and with them those of the subscriptions that it holds
abbrev pub unanswered_ids : BothEnds → List ℕ
unanswered_ids e = flat_map (λ w. unanswered_id w.standing) e.wishes ++ option_to_list e.keepalive_out

abbrev pub used_ids : BothEnds → List ℕ
used_ids e = unanswered_ids e ++ flat_map (λ w. answered_id w.standing) e.wishes

abbrev pub is_keepalive_out : ℕ → BothEnds → Bool
is_keepalive_out id e = list_any (λ k. k == id) (option_to_list e.keepalive_out)

-- a message is the request of a wish, or of the client's Keepalive, that is unanswered
abbrev pub is_requested : BothEnds → ClientMessage → Bool
is_requested e (subscribes id question) = list_any (is_unanswered_as id question) e.wishes
is_requested e (requests_keepalive id) = is_keepalive_out id e
is_requested e _ = true

-- an answer is to a request that waits with its ID, and of its kind: a question that is served is accepted, and no other is
abbrev pub fits_request : BothEnds → ServerMessage → Bool
fits_request e (accepts id) = list_any (λ w. is_unanswered id w.standing && e.serves w.question) e.wishes
fits_request e (refuses id) = list_any (λ w. is_unanswered id w.standing && not (e.serves w.question)) e.wishes
fits_request e (grants id) = is_keepalive_out id e
fits_request e _ = true

-- ---- the session

abbrev pub is_active_as : ℕ → Question → Subscription → Bool
is_active_as id question s = id == s.id && same_question question s.question

-- the end that was told last of the first answer of a subscription
abbrev pub told_end : List (ℕ × ℕ) → ℕ → Option ℕ
told_end told id = option_map (λ e. e.1) (find (λ e. e.0 == id) told)

-- the ends of the first answers of what is active, before those that were told earlier
abbrev pub remembers : List Subscription → List (ℕ × ℕ) → List (ℕ × ℕ)
remembers subscriptions told = map (λ s. (s.id, s.filled)) subscriptions ++ told

abbrev pub is_told : List (ℕ × ℕ) → Subscription → Bool
is_told told s = elim (told_end told s.id) [ None ↦ false | Some n ↦ n == s.filled ]

-- the subscriptions that were active when the last of some messages was made
abbrev pub subscribed_at_last : List Made → List Subscription
subscribed_at_last [] = []
subscribed_at_last (m ∷ []) = m.subscribed
subscribed_at_last (m ∷ n ∷ ms) = subscribed_at_last (n ∷ ms)

-- The IDs and questions that may be active after a message is taken; nothing where a test refuses it or it ends the session.
-- A SUBSCRIBE is tested as by `verdict_on`, but for class and home, as no hub is asked here: a question that may not be served counts too.
-- Besides, its ID and its question must be such as a message has. A message without an ID is taken by an established session alone (RFC 8490, 5.1).
abbrev pub taken_up : Bool → List (ℕ × Question) → ClientMessage → Option (List (ℕ × Question))
taken_up established active (subscribes id question) =
    if not (is_id id && is_question question) || list_any (λ a. a.0 == id || same_question a.1 question) active || nat_le max_questions (length active) then None
    else Some (active ++ (id, question) ∷ [])
taken_up established active (unsubscribes id) = if established && is_id id then Some (filter (λ a. not (a.0 == id)) active) else None
taken_up established active (reconfirms rr) = if established && is_name rr.owner && nat_le (length (reconfirm_message rr)) 65535 then Some active else None
taken_up established active (requests_keepalive id) = if is_id id then Some active else None

abbrev pub all_taken_up : Bool → List (ℕ × Question) → List ClientMessage → Option (List (ℕ × Question))
all_taken_up established active [] = Some active
all_taken_up established active (m ∷ ms) = elim (taken_up established active m) [ None ↦ None | Some later ↦ all_taken_up established later ms ]
