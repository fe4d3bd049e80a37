-- What holds of a session so that it tells the history, and that it is kept by an entry, by a message without notices, and by all that makes no message.
--     Tells start history session      each message is right by its note, and all of them by the note now
--     Almost      all but what the messages together lead to
use Rattle.std.proofs.Common.{◌≡◌, ℕ, ◌+◌, ◌≤◌, ◌<◌, Bool, false, List, [], ◌∷◌, ◌++◌, map, length, sym, ◌∙◌, subst, arith}
use Rattle.std.specs.Prelude.{filter, ◌==◌}
use Rattle.std.specs.List.{AllByRecursion, IsDistinct}
use Rattle.std.specs.Str.{bytes_eq}
use Rattle.std.proofs.Math.Nat.{le_trans}
use Rattle.std.proofs.lemmas.List.{length-append}
use Rattle.dnsname.specs.Names.{Labels, same_name}
use Rattle.rrset.specs.Rcodes.{noerror}
use Rattle.rrset.specs.Records.{same_question}
use Rattle.rrset.specs.RecordSet.{changes}
use Rattle.rrset.specs.declared.record.Changed.{Changed}
use Rattle.dsotlv.specs.Answers.{answer_to, push_message}
use Rattle.dsotlv.specs.Messages.{frame}
use Rattle.dsotlv.specs.declared.message.Notice.{Notice}
use Rattle.history.specs.States.{State, records_at}
use Rattle.history.specs.declared.entry.Entry.{Entry}
use Rattle.pushsession.specs.declared.session_status.SessionStatus.{SessionStatus}
use Rattle.rrset.proofs.Distinct.{distinct_filter}
use Rattle.rrset.proofs.Places.{all_filter}
use Rattle.pushsession.specs.Sessions.{noted, touched, new_session, cleared, answers}
use Rattle.pushserver.specs.PlainHubs.{Session, Subscription, Queue, Made, told, note_of, size_of_made, plain_keeps, written}
use Rattle.pushserver.proofs.AskedFor.{IsAsked, all_asked}
use Rattle.pushserver.proofs.hub_steps.Pairs.{all-weaken}
use Rattle.pushserver.proofs.hub_steps.Queued.{points-fold, names-fold}
use Rattle.pushserver.proofs.session_steps.Names.{AreApart}
use Rattle.pushserver.proofs.session_steps.Lists.{each-both, each-map}
use Rattle.std.proofs.lemmas.List.Elements.{All-nil}
use Rattle.dsotlv.specs.Laws.{AreOctets}
use Rattle.pushserver.specs.ToldMessages.{NotesRise, IsNoEarlier, notices_in}
use Rattle.pushtelling.proofs.Messages.{LeadsTo, LeadsIfFilled, EachIsRightAt, each_right-append, each_right-later, set_after-quiet, size_of_made-append}
use Rattle.pushtelling.proofs.Notes.{NotesRise-later, NotesRise-below, notes-says, told-below, told-entered, AnswersAlike, left_by, told-left}
use Rattle.pushtelling.proofs.Entries.{noted-entered}

-- its questions: IDs of two octets, no ID and no question twice
pub record AreAsked (subscriptions : List Subscription) : Type 0 where
  pub ids : IsDistinct (λ s t. s.id == t.id) subscriptions
  pub id_sizes : AllByRecursion (λ s. s.id < 65536) subscriptions
  pub questions : IsDistinct (λ s t. same_question s.question t.question) subscriptions

-- all but what the messages together lead to
pub record AlmostOf (start : State) (history : List Entry) (subscriptions : List Subscription) (queue : Queue) (made : List Made) : Type 0 where
  pub each : EachIsRightAt start history [] made
  pub notes : NotesRise (map (λ m. m.note) made ++ (record { queue = queue; newest = length history }) ∷ [])
  -- each name is queued once, with a point of the history
  pub names : AreApart queue
  pub points : AllByRecursion (λ e. e.1 ≤ length history) queue
  pub asked : AreAsked subscriptions

pub record TellsOf (start : State) (history : List Entry) (subscriptions : List Subscription) (queue : Queue) (made : List Made) (input : List ℕ) : Type 0 where
  pub most : AlmostOf start history subscriptions queue made
  -- all messages together lead to the records at the points now
  pub all : AllByRecursion (LeadsTo start history made (record { queue = queue; newest = length history })) subscriptions
  pub whole : AllByRecursion (λ s. s.filled ≤ size_of_made made) subscriptions
  pub octets : AreOctets input

-- of a session they speak of no more than this
abbrev pub Almost : State → List Entry → Session → Type 0
Almost start history session = AlmostOf start history session.subscriptions session.queue session.made

abbrev pub Tells : State → List Entry → Session → Type 0
Tells start history session = TellsOf start history session.subscriptions session.queue session.made session.input

-- ---- an entry

-- the points of all messages are points of the history
pub points-made : (start : State) (history : List Entry) (session : Session) → Almost start history session → AllByRecursion (λ m. (name : Labels) → told m.note name ≤ length history) session.made
points-made start history session h =
    all-weaken (λ (m : Made). IsNoEarlier m.note (note_of (length history) session)) (λ (m : Made). (name : Labels) → told m.note name ≤ length history)
    (λ m early name. le_trans (early name) (told-below (length history) session.queue h.points name)) session.made
    (each-map (λ (m : Made). m.note) (λ n. IsNoEarlier n (note_of (length history) session)) session.made (NotesRise-below (map (λ m. m.note) session.made) (note_of (length history) session) h.notes))

abbrev pub changes_by : State → List Entry → Entry → List Changed
changes_by start history entry = changes (records_at start history (length history)) (records_at start (history ++ entry ∷ []) (length (history ++ entry ∷ [])))

-- what an entry does to a session
abbrev pub by_entry : State → List Entry → Entry → Session → Session
by_entry start history entry session = noted (plain_keeps (length history)) (changes_by start history entry) (length history) session

-- an entry keeps it
pub tells-entered : (start : State) (history : List Entry) (entry : Entry) (session : Session) → Tells start history session
    → Tells start (history ++ entry ∷ []) (by_entry start history entry session)
tells-entered start history entry session h =
    let longer = history ++ entry ∷ [] in
    let later = by_entry start history entry session in
    let changed : List Changed = touched (plain_keeps 0) session.subscriptions (changes_by start history entry) in
    let grown : length history ≤ length longer = subst (λ n. length history ≤ n) (sym (length-append history (entry ∷ []))) (omega arith) in
    record {
      most = record {
        each = each_right-later start history (entry ∷ []) [] session.made (points-made start history session h.most) h.most.each;
        notes = NotesRise-later (map (λ m. m.note) session.made) (note_of (length history) session) (note_of (length longer) later) h.most.notes
            (told-entered (length history) (length longer) session.queue changed grown);
        names = names-fold (length history) changed session.queue h.most.names;
        points = points-fold (λ (e : Labels × ℕ). e.1 ≤ length longer) (length history) (λ n. grown) changed session.queue
            (all-weaken (λ (e : Labels × ℕ). e.1 ≤ length history) (λ (e : Labels × ℕ). e.1 ≤ length longer) (λ e low. le_trans low grown) session.queue h.most.points);
        asked = h.most.asked;
      };
      all = each-both (LeadsTo start history session.made (note_of (length history) session)) (λ (s : Subscription). IsAsked session.subscriptions s.question)
          (LeadsTo start longer session.made (note_of (length longer) later))
          (λ s right asked. right ∙ sym (noted-entered start history entry session s.question asked h.most.points)) session.subscriptions h.all (all_asked session.subscriptions);
      whole = h.whole;
      octets = h.octets;
    }

-- ---- a message

abbrev pub made_now : State → List Entry → Session → List ℕ → Made
made_now start history session message = record { message = message; note = note_of (length history) session; subscribed = session.subscriptions }

-- A message that leads each subscription to what is noted now, after all but that.
pub tells-with_frame : (start : State) (history : List Entry) (session : Session) (keepalive : Bool) (t : ℕ) (message : List ℕ) → Almost start history session → AreOctets session.input
    → AllByRecursion (λ s. s.filled ≤ written session + length (frame message)) session.subscriptions
    → AllByRecursion (LeadsTo start history (session.made ++ made_now start history session message ∷ []) (note_of (length history) session)) session.subscriptions
    → Tells start history (answers (plain_keeps (length history)) keepalive t message session)
tells-with_frame start history session keepalive t message h octets filled leads =
    let new = made_now start history session message in
    let made = session.made ++ new ∷ [] in
    let now = note_of (length history) session in
    record {
      most = record {
        each = each_right-append start history [] session.made new h.each (all-weaken (LeadsTo start history made now) (LeadsIfFilled start history made now) (λ s e within. e) session.subscriptions leads);
        notes = notes-says session.made new now h.notes (λ name. omega arith);
        names = h.names;
        points = h.points;
        asked = h.asked;
      };
      all = leads;
      whole = all-weaken (λ (s : Subscription). s.filled ≤ written session + length (frame message)) (λ (s : Subscription). s.filled ≤ size_of_made made)
          (λ s low. subst (λ n. s.filled ≤ n) (sym (size_of_made-append session.made new)) low) session.subscriptions filled;
      octets = octets;
    }

-- the notices that are read from the message of notices are these
abbrev pub IsReadBack : List Notice → Type 0
IsReadBack notices = notices_in (push_message notices) ≡ notices

-- no notices, and no answer to a SUBSCRIBE
abbrev pub IsQuiet : List ℕ → Type 0
IsQuiet message = (notices_in message ≡ []) × ((id : ℕ) → bytes_eq message (answer_to id noerror) ≡ false)

-- a quiet message keeps it
pub tells-says_quiet : (start : State) (history : List Entry) (session : Session) (keepalive : Bool) (t : ℕ) (message : List ℕ) → IsQuiet message → Tells start history session
    → Tells start history (answers (plain_keeps (length history)) keepalive t message session)
tells-says_quiet start history session keepalive t message quiet h =
    tells-with_frame start history session keepalive t message h.most h.octets
    (all-weaken (λ (s : Subscription). s.filled ≤ written session) (λ (s : Subscription). s.filled ≤ written session + length (frame message)) (λ s low. omega (arith, low)) session.subscriptions h.whole)
    (all-weaken (LeadsTo start history session.made (note_of (length history) session))
    (LeadsTo start history (session.made ++ made_now start history session message ∷ []) (note_of (length history) session))
    (λ s e. set_after-quiet session.made (made_now start history session message) s (quiet.1 s.id) quiet.0 ∙ e) session.subscriptions h.all)

-- ---- names leave the queue

pub almost-left : (start : State) (history : List Entry) (session : Session) (test : Labels → Bool) → AnswersAlike test → Almost start history session
    → Almost start history (record session { queue = left_by test session.queue })
almost-left start history session test alike h = record {
  each = h.each;
  notes = NotesRise-later (map (λ m. m.note) session.made) (note_of (length history) session) (record { queue = left_by test session.queue; newest = length history }) h.notes (told-left test alike (length history) session.queue h.points);
  names = distinct_filter (λ (e f : Labels × ℕ). same_name f.0 e.0) (λ (e : Labels × ℕ). test e.0) session.queue h.names;
  points = all_filter (λ (e : Labels × ℕ). e.1 ≤ length history) (λ (e : Labels × ℕ). test e.0) session.queue h.points;
  asked = h.asked;
}

-- ---- what makes no message

-- some of the subscriptions go
pub tells-fewer : (start : State) (history : List Entry) (session : Session) (test : Subscription → Bool) → Tells start history session
    → Tells start history (record session { subscriptions = filter test session.subscriptions })
tells-fewer start history session test h = record {
  most = record {
    each = h.most.each;
    notes = h.most.notes;
    names = h.most.names;
    points = h.most.points;
    asked = record {
      ids = distinct_filter (λ (s u : Subscription). s.id == u.id) test session.subscriptions h.most.asked.ids;
      id_sizes = all_filter (λ (s : Subscription). s.id < 65536) test session.subscriptions h.most.asked.id_sizes;
      questions = distinct_filter (λ (s u : Subscription). same_question s.question u.question) test session.subscriptions h.most.asked.questions;
    };
  };
  all = all_filter (LeadsTo start history session.made (note_of (length history) session)) test session.subscriptions h.all;
  whole = all_filter (λ (s : Subscription). s.filled ≤ written session) test session.subscriptions h.whole;
  octets = h.octets;
}

-- none are asked
none_asked : AreAsked []
unfolding IsDistinct
none_asked = record { ids = tt; id_sizes = tt; questions = tt }

-- all of the subscriptions and of the queue go
pub tells-cleared : (start : State) (history : List Entry) (session : Session) (point : ℕ) (standing : SessionStatus) → Tells start history session
    → Tells start history (cleared (plain_keeps point) standing session)
unfolding IsDistinct
tells-cleared start history session point standing h = record {
  most = record {
    each = h.most.each;
    notes = NotesRise-later (map (λ m. m.note) session.made) (note_of (length history) session) (record { queue = []; newest = length history }) h.most.notes (told-below (length history) session.queue h.most.points);
    names = tt;
    points = tt;
    asked = none_asked;
  };
  all = tt;
  whole = tt;
  octets = h.octets;
}

-- a new session tells any history
pub tells-new : (start : State) (history : List Entry) (point t : ℕ) → Tells start history (new_session (plain_keeps point) t)
unfolding IsDistinct
tells-new start history point t = record { most = record { each = tt; notes = tt; names = tt; points = tt; asked = none_asked }; all = tt; whole = tt; octets = All-nil (λ o. o < 256) }

-- octets come in
pub tells-input : (start : State) (history : List Entry) (session : Session) (input : List ℕ) → AreOctets input → Tells start history session → Tells start history (record session { input = input })
tells-input start history session input octets h = record { most = h.most; all = h.all; whole = h.whole; octets = octets }
