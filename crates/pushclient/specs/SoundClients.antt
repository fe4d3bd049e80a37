-- What holds of a client alone after any calls, whatever octets come.
--     IsSound client      few different questions, and IDs of which none is in use twice
--     Call, called, after_all      a call, what it leaves, and what calls leave one after the other
--     CallsStaySound, ClientsAreSound      each call leaves a sound client, so all calls do
--     QuestionsAreAskedFor      a wish is for a question that `subscribe` was given
use Rattle.std.specs.Prelude.{◌≡◌, ℕ, ◌≤◌, Bool, true, false, List, map, length, fold, Option, Some, None, IsTrue, ◌==◌}
use Rattle.std.specs.List.{count_by, IsDistinct, AllByRecursion}
use Rattle.push_base.specs.Limits.{max_questions, max_input}
use Rattle.rrset.specs.Records.{same_question}
use Rattle.rrset.specs.declared.record.Rr.{Rr}
use Rattle.rrset.specs.declared.record.Question.{Question}
use Rattle.pushclient.specs.Clients.{Client, Connection, Wish, RequestState, not_asked, unanswered, ids_in_use, unasked, new_client, connected, cut, subscribe, unsubscribe, reconfirm, take_octets, give_octets}
use Rattle.pushclient.specs.Steps.{is_answered, moment, step}

abbrev pub question_of : Wish → Question
question_of w = w.question

abbrev pub is_waiting : RequestState → Bool
is_waiting (unanswered id) = true
is_waiting _ = false

abbrev pub is_asked : RequestState → Bool
is_asked not_asked = false
is_asked _ = true

-- what was dropped is a wish only until its answer comes (RFC 8765, 6.4)
abbrev pub IsRightlyDropped : Wish → Type 0
IsRightlyDropped w = w.wanted ≡ false → is_waiting w.standing ≡ true

abbrev pub IsAsked : Wish → Type 0
IsAsked w = is_asked w.standing ≡ true

-- wanted, not asked, and without notices
abbrev pub IsUnasked : Wish → Type 0
IsUnasked w = w ≡ unasked w.question

abbrev pub IsId : ℕ → Type 0
IsId id = (1 ≤ id) × (id ≤ 65535)

-- how often a number stands in a list
abbrev pub count_of : ℕ → List ℕ → ℕ
count_of n ns = count_by (λ m. m == n) ns

-- each is from 1 to 65,535, and none is there twice (RFC 8490, 5.4.1)
pub record AreIds (ids : List ℕ) : Type 0 where
  pub each : AllByRecursion IsId ids
  pub once : (id : ℕ) → count_of id ids ≤ 1

-- Until the connection closes all is asked on it. What is answered established it (RFC 8490, 5.1). No more octets wait than may.
pub record IsSoundOn (wishes : List Wish) (connection : Connection) : Type 0 where
  pub last : connection.last_id ≤ 65535
  pub ids : AreIds (ids_in_use wishes connection)
  pub asked : connection.closed ≡ None → AllByRecursion IsAsked wishes
  pub begun : AllByRecursion (λ w. is_answered w.standing ≡ true → connection.established ≡ true) wishes
  pub input : length connection.input ≤ max_input

-- without a connection nothing is asked
abbrev pub StandsSoundly : List Wish → Option Connection → Type 0
StandsSoundly wishes None = AllByRecursion IsUnasked wishes
StandsSoundly wishes (Some connection) = IsSoundOn wishes connection

pub record IsSound (client : Client) : Type 0 where
  pub few : length client.wishes ≤ max_questions
  pub questions : IsDistinct same_question (map question_of client.wishes)
  pub dropped : AllByRecursion IsRightlyDropped client.wishes
  pub stands : StandsSoundly client.wishes client.connection

pub data Call : Type 0 where
  connects : ℕ → Call
  is_cut : Call
  subscribes : Question → Call
  unsubscribes : Question → Call
  reconfirms : Rr → Call
  takes : List ℕ → Call
  gives : ℕ → Call
  comes_to : ℕ → Call
  reacts : Call

abbrev pub called : Client → Call → Client
called client (connects t) = connected t client
called client is_cut = cut client
called client (subscribes question) = (subscribe client question).1
called client (unsubscribes question) = (unsubscribe client question).1
called client (reconfirms rr) = (reconfirm client rr).1
called client (takes piece) = take_octets piece client
called client (gives n) = give_octets n client
called client (comes_to t) = moment client t
called client reacts = (step client).1

-- a test of the question that a call subscribes
abbrev pub passes : (Question → Bool) → Call → Bool
passes test (subscribes question) = test question
passes test _ = true

-- a client that is new, after some calls
abbrev pub after_all : List Call → Client
after_all calls = fold called new_client calls

abbrev pub CallsStaySound : Type 0
CallsStaySound = (client : Client) (call : Call) → IsSound client → IsSound (called client call)

abbrev pub ClientsAreSound : Type 0
ClientsAreSound = (calls : List Call) → IsSound (after_all calls)

-- a test that each question subscribed passes is passed by that of each wish
abbrev pub QuestionsAreAskedFor : Type 0
QuestionsAreAskedFor = (test : Question → Bool) (client : Client) (call : Call) → IsTrue (passes test call) → AllByRecursion (λ w. IsTrue (test w.question)) client.wishes → AllByRecursion (λ w. IsTrue (test w.question)) (called client call).wishes
