-- The plain server: it keeps the history, the sessions, and each message that it made, and nothing that the history tells.
--     Subscription, Queue, Note, Made      what a plain session keeps
--     told note name      the point that a note gives for a name
--     sent_of, nets_of      the records that count as sent of a name; each name that waits with its net
--     plain, Session, Hub      the kind of its sessions, a session, the hub
use Rattle.std.specs.Prelude.{ℕ, ◌+◌, Bool, not, List, [], ◌∷◌, ◌++◌, map, drop, length, filter, sum_by, find, if◌then◌else◌, Option, is_some, option_map, unwrap_or, ◌==◌}
use Rattle.std.specs.List.{list_any, IsDistinct}
use Rattle.dnsname.specs.Names.{Labels, same_name}
use Rattle.rrset.specs.Records.{same_question}
use Rattle.rrset.specs.RecordSet.{RecordSet, only, at_name, same_rows}
use Rattle.rrset.specs.declared.record.Key.{Key}
use Rattle.rrset.specs.declared.record.Question.{Question}
use Rattle.dsotlv.specs.Messages.{frame}
use Rattle.subscr.specs.Asked.{Asked, one_asks}
use Rattle.dsotlv.specs.declared.message.Notice.{Notice}
use Rattle.coalesce.specs.FirstAnswers.{told_first}
use Rattle.coalesce.specs.Net.{Nets, each_net, packed}
use Rattle.dsosession.specs.declared.session.Timers.{Timers}
use Rattle.history.specs.States.{State, state_at, records_at}
use Rattle.history.specs.declared.entry.Entry.{Entry}
use Rattle.pushsession.specs.Sessions.{SessionOf, Keeps, least_of}
use Rattle.pushsession.specs.Subscribing.{Tells}
use Rattle.pushserver.specs.Hubs.{SessionKind, HubOf, empty_hub}
use Rattle.pushserver.specs.Giving.{GivingOf}

-- a subscription (RFC 8765, 6.2); filled counts the octets of the whole output up to the end of its first answer
pub record Subscription : Type 0 where
  pub id : ℕ
  pub question : Question
  pub filled : ℕ

-- names in order, each with the point up to which it was told
abbrev pub Queue : Type 0
Queue = List (Labels × ℕ)

-- for every name a point: that of the queue, and the newest for a name that isn't queued
pub record Note : Type 0 where
  pub queue : Queue
  pub newest : ℕ

abbrev pub point_in : Queue → Labels → Option ℕ
point_in queue name = option_map (λ e. e.1) (find (λ e. same_name name e.0) queue)

abbrev pub told : Note → Labels → ℕ
told note name = unwrap_or (point_in note.queue name) note.newest

-- a message that the server made, with its note and the subscriptions that were active then
pub record Made : Type 0 where
  pub message : List ℕ
  pub note : Note
  pub subscribed : List Subscription

abbrev pub frame_of : Made → List ℕ
frame_of m = frame m.message

abbrev pub size_of_made : List Made → ℕ
size_of_made made = sum_by (λ m. length (frame_of m)) made

-- ---- subscriptions

-- the questions with their IDs
abbrev pub asked_of : List Subscription → Asked
asked_of subscriptions = map (λ s. (s.id, s.question)) subscriptions

abbrev pub asks_for : List Subscription → Key → Bool
asks_for subscriptions key = one_asks (λ s. s.question) subscriptions key

-- the records that one of the questions matches
abbrev pub wanted : List Subscription → RecordSet → RecordSet
wanted subscriptions set = only (asks_for subscriptions) set

abbrev pub subscription_of : List Subscription → ℕ → Option Subscription
subscription_of subscriptions id = find (λ s. s.id == id) subscriptions

abbrev pub subscription_for : List Subscription → Question → Option Subscription
subscription_for subscriptions question = find (λ s. same_question s.question question) subscriptions

-- no ID is there twice
abbrev pub HaveOwnIds : List Subscription → Type 0
HaveOwnIds subscriptions = IsDistinct (λ s t. s.id == t.id) subscriptions

-- no question is there twice
abbrev pub AskOnce : List Subscription → Type 0
AskOnce subscriptions = IsDistinct (λ s t. same_question s.question t.question) subscriptions

-- ---- the queue

-- a name that isn't queued yet, with a point, as the last
abbrev pub enqueued : ℕ → Queue → Labels → Queue
enqueued point queue name = if is_some (point_in queue name) then queue else queue ++ (name, point) ∷ []

abbrev pub leaves_queue : Labels → Queue → Queue
leaves_queue name queue = filter (λ e. not (same_name name e.0)) queue

abbrev pub stays_queued : List Labels → Queue → Queue
stays_queued names queue = filter (λ e. list_any (same_name e.0) names) queue

-- ---- what is told, by the history

-- what counts as sent of a name: the records at the point up to which it was told, as the questions match them
abbrev pub sent_of : State → List Entry → List Subscription → Queue → Labels → RecordSet
sent_of start history subscriptions queue name = wanted subscriptions (at_name name (records_at start history (told (record { queue = queue; newest = length history }) name)))

-- the records of a name now, as the questions match them
abbrev pub shown_of : State → List Entry → List Subscription → Labels → RecordSet
shown_of start history subscriptions name = wanted subscriptions (at_name name (records_at start history (length history)))

-- what follows the answer to a SUBSCRIBE (RFC 8765, 6.2.2): the name has changed where other records were sent of it than it has now.
-- Whether it waits isn't asked: what counts as sent of a name that doesn't is what it has now
abbrev pub first_notices : State → List Entry → Question → List Subscription → Queue → List Notice
first_notices start history question subscriptions queue =
    let changed = not (same_rows (sent_of start history subscriptions queue question.name) (shown_of start history subscriptions question.name)) in
    told_first changed question (asks_for subscriptions) (at_name question.name (records_at start history (length history)))

-- each queued name with its net
abbrev pub nets_of : State → List Entry → List Subscription → Queue → Nets
nets_of start history subscriptions queue = each_net (λ e. e.0) (λ e. sent_of start history subscriptions queue e.0) (λ e. shown_of start history subscriptions e.0) queue

-- ---- its sessions

abbrev pub plain_keeps : ℕ → Keeps (List Subscription) Queue (List Made)
plain_keeps newest = record {
  no_questions = [];
  count = λ subscriptions. length subscriptions;
  has_id = λ id subscriptions. is_some (subscription_of subscriptions id);
  question_of = λ id subscriptions. option_map (λ s. s.question) (subscription_of subscriptions id);
  id_of = λ question subscriptions. option_map (λ s. s.id) (subscription_for subscriptions question);
  watches = λ name subscriptions. list_any (λ s. same_name s.question.name name) subscriptions;
  wants = asks_for;
  with_question = λ id question end subscriptions. subscriptions ++ (record { id = id; question = question; filled = end }) ∷ [];
  without_id = λ id subscriptions. filter (λ s. not (s.id == id)) subscriptions;
  no_names = [];
  with_change = λ point queue c. enqueued point queue c.key.owner;
  without_name = leaves_queue;
  least_point = λ queue. least_of (map (λ e. e.1) queue);
  no_messages = [];
  with_message = λ message queue subscriptions made. made ++ (record { message = message; note = record { queue = queue; newest = newest }; subscribed = subscriptions }) ∷ [];
  end_behind = λ size made. size_of_made made + size;
}

abbrev pub plain_tells : State → List Entry → Tells (List Subscription) Queue
plain_tells start history = record {
  first_notices = first_notices start history;
  packed = λ subscriptions queue. (let pack = packed (nets_of start history subscriptions queue) in (pack.0, stays_queued pack.1 queue));
}

-- it keeps all entries, and knows by them what there is to know
abbrev pub plain : SessionKind (List Subscription) Queue (List Made) (Unit {0})
plain = record {
  keeps = plain_keeps;
  tells = λ seen start history. plain_tells start history;
  state = λ seen start history. state_at start history (length history);
  newest = λ seen history. length history;
  since = λ seen point history. drop point history;
  enters = λ entry seen. seen;
}

abbrev pub Session : Type 0
Session = SessionOf (List Subscription) Queue (List Made)

abbrev pub Hub : Type 0
Hub = HubOf plain

abbrev pub Giving : Type 0
Giving = GivingOf plain

abbrev pub new_hub : State → Timers → Hub
new_hub start timers = empty_hub plain tt start timers

abbrev pub note_of : ℕ → Session → Note
note_of newest session = record { queue = session.queue; newest = newest }

-- the number of the octets of all messages made
abbrev pub written : Session → ℕ
written session = size_of_made session.made

abbrev pub sent : Hub → Session → Labels → RecordSet
sent hub session name = sent_of hub.start hub.history session.subscriptions session.queue name

-- what follows the answer to a SUBSCRIBE with this question
abbrev pub first_answer : Hub → Session → Question → List Notice
first_answer hub session question = first_notices hub.start hub.history question session.subscriptions session.queue
