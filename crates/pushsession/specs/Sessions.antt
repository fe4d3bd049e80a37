-- One session of the server (RFC 8490, 6; RFC 8765, 6): the rules that hold whatever it keeps of its questions, of the names that
-- wait to be told, and of what it wrote. The plain session and the session as it is kept both have them.
--     SessionOf      a session
--     Keeps      what the rules ask of what a session keeps
--     least_of numbers      the least of them
--     new_session, room_of, with_piece, without_first, laid_over, copied, establishes      connected; octets come in; the first message leaves; octets of the output are handed on; established
--     asked_to_stop, due, timed, ended_with      how a session comes to its end
--     touched, noted      an entry changes keys, and their names wait
--     with_frame, answers      a message is written; with the names that wait then
--     says_stop, stopped      the Retry Delay; what a session does that was asked to stop
use Rattle.std.specs.Prelude.{ℕ, ◌-◌, Bool, true, false, cond, List, [], ◌∷◌, ◌++◌, length, take, drop, filter, fold, min, Option, Some, None, if◌then◌else◌}
use Rattle.push_base.specs.Limits.{max_input}
use Rattle.dnsname.specs.Names.{Labels}
use Rattle.rrset.specs.declared.record.Key.{Key}
use Rattle.rrset.specs.declared.record.Question.{Question}
use Rattle.rrset.specs.declared.record.Changed.{Changed}
use Rattle.dsotlv.specs.Messages.{frame}
use Rattle.dsotlv.specs.Answers.{stop_message}
use Rattle.dsosession.specs.Timing.{Clocks, new_clocks, restarted, server_ends, has_passed, stop_time}
use Rattle.dsosession.specs.declared.session.EndReason.{EndReason}
use Rattle.dsosession.specs.declared.session.EndReason.TheVariants as ends
use Rattle.pushsession.specs.declared.session_status.SessionStatus.{SessionStatus}
use Rattle.pushsession.specs.declared.session_status.SessionStatus.TheVariants.{Live, AskedToStop, Stopped, Ended}

-- its questions, the names that wait, its timers, whether it is established (RFC 8490, 5.1) and goes on, the octets that came and
-- those that wait to go, and the messages that it made
pub record SessionOf (Asked Queue Messages : Type 0) : Type 0 where
  pub subscriptions : Asked
  pub queue : Queue
  pub clocks : Clocks
  pub established : Bool
  pub standing : SessionStatus
  pub input : List ℕ
  pub output : List ℕ
  pub made : Messages

pub record Keeps (Asked Queue Messages : Type 0) : Type 0 where
  -- no questions; how many; whether an ID is in use; the question of an ID; the ID of a question; whether one has a name; whether one asks for a key
  pub no_questions : Asked
  pub count : Asked → ℕ
  pub has_id : ℕ → Asked → Bool
  pub question_of : ℕ → Asked → Option Question
  pub id_of : Question → Asked → Option ℕ
  pub watches : Labels → Asked → Bool
  pub wants : Asked → Key → Bool
  -- one more question with its ID, whose first answer ends behind so many octets of the output; without that of an ID
  pub with_question : ℕ → Question → ℕ → Asked → Asked
  pub without_id : ℕ → Asked → Asked
  -- no names; a key that is asked for changes at a point, and its name waits; a name waits no longer
  pub no_names : Queue
  pub with_change : ℕ → Queue → Changed → Queue
  pub without_name : Labels → Queue → Queue
  -- the least point since which a name waits
  pub least_point : Queue → Option ℕ
  -- no messages; one more, made while these names waited and these questions were asked; the octets of all, and so many more
  pub no_messages : Messages
  pub with_message : List ℕ → Queue → Asked → Messages → Messages
  pub end_behind : ℕ → Messages → ℕ

-- the least of some numbers
abbrev pub least_of : List ℕ → Option ℕ
least_of [] = None
least_of (n ∷ ns) = elim (least_of ns) [ None ↦ Some n | Some least ↦ Some (min n least) ]

-- ---- it is connected; octets come and go

abbrev pub new_session : {A Q M : Type 0} → Keeps A Q M → ℕ → SessionOf A Q M
new_session keeps now = record {
  subscriptions = keeps.no_questions;
  queue = keeps.no_names;
  clocks = new_clocks now;
  established = false;
  standing = Live;
  input = [];
  output = [];
  made = keeps.no_messages;
}

-- an ended or stopped session takes nothing more
abbrev pub is_open : SessionStatus → Bool
is_open Live = true
is_open (AskedToStop rcode delay) = true
is_open (Stopped since) = false
is_open (Ended reason) = false

-- how many octets of a piece go into its input
abbrev pub room_of : {A Q M : Type 0} → SessionOf A Q M → ℕ
room_of session = cond (is_open session.standing) (max_input - length session.input) 0

abbrev pub with_piece : {A Q M : Type 0} → List ℕ → SessionOf A Q M → SessionOf A Q M
with_piece piece session = record session { input = session.input ++ take (room_of session) piece }

-- its first message is taken up, and this is what stood behind it
abbrev pub without_first : {A Q M : Type 0} → List ℕ → SessionOf A Q M → SessionOf A Q M
without_first rest session = record session { input = rest }

-- the front of an output that fits stands in a buffer, over what stood there
abbrev pub laid_over : List ℕ → List ℕ → List ℕ
laid_over output buffer = take (length buffer) output ++ drop (length output) buffer

-- the front of the output that fits is handed on
abbrev pub copied : {A Q M : Type 0} → ℕ → SessionOf A Q M → SessionOf A Q M
copied room session = record session { output = drop room session.output }

-- it is established from now on (RFC 8490, 5.1)
abbrev pub establishes : {A Q M : Type 0} → SessionOf A Q M → SessionOf A Q M
establishes session = record session { established = true }

-- ---- its end

-- a stop is asked for in place of an earlier one; an ended or stopped session is left as it is (RFC 8490, 6.6.1)
abbrev pub asked_to_stop : {A Q M : Type 0} → ℕ → ℕ → SessionOf A Q M → SessionOf A Q M
asked_to_stop rcode delay session = cond (is_open session.standing) (record session { standing = AskedToStop rcode delay }) session

-- it asks for nothing more, and no name waits
abbrev pub cleared : {A Q M : Type 0} → Keeps A Q M → SessionStatus → SessionOf A Q M → SessionOf A Q M
cleared keeps standing session = record session { subscriptions = keeps.no_questions; queue = keeps.no_names; standing = standing }

abbrev pub ended_with : {A Q M : Type 0} → Keeps A Q M → EndReason → SessionOf A Q M → SessionOf A Q M
ended_with keeps reason session = cleared keeps (Ended reason) session

abbrev pub ended_where : {A Q M : Type 0} → Keeps A Q M → Option EndReason → SessionOf A Q M → SessionOf A Q M
ended_where keeps None session = session
ended_where keeps (Some reason) session = ended_with keeps reason session

-- why a session with so many questions ends at a moment: a stopped one after 5,000 milliseconds (RFC 8490, 6.6.1), and one that goes on by its timers (RFC 8490, 6.4 and 6.5)
abbrev pub due_as : SessionStatus → Clocks → ℕ → ℕ → Option EndReason
due_as (Ended reason) clocks questions t = None
due_as (Stopped since) clocks questions t = if has_passed stop_time since t then Some ends.Stopped else None
due_as _ clocks questions t = server_ends clocks t questions

abbrev pub due : {A Q M : Type 0} → Keeps A Q M → ℕ → SessionOf A Q M → Option EndReason
due keeps t session = due_as session.standing session.clocks (keeps.count session.subscriptions) t

abbrev pub timed : {A Q M : Type 0} → Keeps A Q M → ℕ → SessionOf A Q M → SessionOf A Q M
timed keeps t session = ended_where keeps (due keeps t session) session

-- ---- names wait

-- the changes of keys that a question asks for
abbrev pub touched : {A Q M : Type 0} → Keeps A Q M → A → List Changed → List Changed
touched keeps subscriptions changed = filter (λ c. keeps.wants subscriptions c.key) changed

-- an entry at a point changes these keys: each name at which it changes one that is asked for waits
abbrev pub noted : {A Q M : Type 0} → Keeps A Q M → List Changed → ℕ → SessionOf A Q M → SessionOf A Q M
noted keeps changed point session = record session { queue = fold (keeps.with_change point) session.queue (touched keeps session.subscriptions changed) }

-- ---- messages are written

-- a message behind its length goes behind the output, and restarts the timers (RFC 7766, 8; RFC 8490, 6.3); it is made while these names wait
abbrev pub with_frame : {A Q M : Type 0} → Keeps A Q M → Bool → ℕ → List ℕ → Q → SessionOf A Q M → SessionOf A Q M
with_frame keeps is_keepalive now message waiting session = record session {
  output = session.output ++ frame message;
  made = keeps.with_message message waiting session.subscriptions session.made;
  clocks = restarted is_keepalive now session.clocks;
}

-- a message made while the names wait that do so now
abbrev pub answers : {A Q M : Type 0} → Keeps A Q M → Bool → ℕ → List ℕ → SessionOf A Q M → SessionOf A Q M
answers keeps is_keepalive now message session = with_frame keeps is_keepalive now message session.queue session

-- the Retry Delay is written, and the session waits for its end
abbrev pub says_stop : {A Q M : Type 0} → Keeps A Q M → ℕ → ℕ → ℕ → SessionOf A Q M → SessionOf A Q M
says_stop keeps rcode delay now session = cleared keeps (Stopped now) (answers keeps false now (stop_message rcode delay) session)

-- a session that was asked to stop says so, and one that isn't established ends at once (RFC 8490, 6.6.1)
abbrev pub stopped : {A Q M : Type 0} → Keeps A Q M → ℕ → ℕ → ℕ → SessionOf A Q M → SessionOf A Q M
stopped keeps rcode delay now session = if session.established then says_stop keeps rcode delay now session else ended_with keeps ends.Stopped session
