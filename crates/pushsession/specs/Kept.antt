-- A session of the server as it is kept: of each question the end of its first answer, of each name that waits what its keys
-- showed before they changed, and of the messages how many octets they had.
--     KeptSession, keeping      what is kept, and what the rules of sessions ask of it
--     telling rows      what is to be told where these are the records
--     filled_of id filled      the end of the first answer of an ID
--     taken_back point      an entry that was noted wasn't made
use Rattle.std.specs.Prelude.{◌≡◌, ℕ, ◌+◌, ◌==◌, not, List, [], ◌∷◌, ◌++◌, map, length, filter, find, Option, option_map}
use Rattle.rrset.specs.RecordSet.{RecordSet}
use Rattle.rrset.specs.Tables.{counted}
use Rattle.dsotlv.specs.Messages.{frame}
use Rattle.subscr.specs.Asked.{Asked, has, question_of, id_of, watches, wants, without}
use Rattle.coalesce.specs.FirstAnswers.{first_notices}
use Rattle.coalesce.specs.Waiting.{WaitingName, with_old, without_name, before_point, is_named, packed_of, left_in}
use Rattle.pushsession.specs.Sessions.{SessionOf, Keeps, least_of}
use Rattle.pushsession.specs.Subscribing.{Tells}

-- of an ID the octets of the whole output up to the end of its first answer
abbrev pub Filled : Type 0
Filled = List (ℕ × ℕ)

-- the first answers' ends are those of the questions, in their order
abbrev pub HasEnds : Asked → Filled → Type 0
HasEnds asked filled = map (λ e. e.0) filled ≡ map (λ e. e.0) asked

-- the questions with their IDs, and the ends of their first answers
pub record KeptQuestions : Type 0 where
  pub asked : Asked
  pub filled : Filled

-- how many octets were ever written stands for the messages
abbrev pub KeptSession : Type 0
KeptSession = SessionOf KeptQuestions (List WaitingName) ℕ

-- the octets up to the end of the first answer of an ID
abbrev pub filled_of : ℕ → Filled → Option ℕ
filled_of id filled = option_map (λ e. e.1) (find (λ e. e.0 == id) filled)

-- what is left where an ID goes
abbrev pub without_filled : ℕ → Filled → Filled
without_filled id filled = filter (λ e. not (e.0 == id)) filled

abbrev pub keeping : Keeps KeptQuestions (List WaitingName) ℕ
keeping = record {
  no_questions = record { asked = []; filled = [] };
  count = λ q. length q.asked;
  has_id = λ id q. has id q.asked;
  question_of = λ id q. question_of id q.asked;
  id_of = λ question q. id_of question q.asked;
  watches = λ name q. watches name q.asked;
  wants = λ q key. wants key q.asked;
  with_question = λ id question end q. record { asked = q.asked ++ (id, question) ∷ []; filled = q.filled ++ (id, end) ∷ [] };
  without_id = λ id q. record { asked = without id q.asked; filled = without_filled id q.filled };
  no_names = [];
  with_change = with_old;
  without_name = without_name;
  least_point = λ queue. least_of (map (λ w. w.point) queue);
  no_messages = 0;
  with_message = λ message waiting q written. counted (written + length (frame message));
  end_behind = λ size written. counted (written + size);
}

abbrev pub telling : RecordSet → Tells KeptQuestions (List WaitingName)
telling rows = record {
  first_notices = λ question q queue. first_notices question q.asked rows (find (is_named question.name) queue);
  packed = λ q queue. ((packed_of q.asked rows queue).0, left_in q.asked rows queue);
}

-- the names that an entry at this point made wait leave again
abbrev pub taken_back : ℕ → KeptSession → KeptSession
taken_back point session = record session { queue = before_point point session.queue }
