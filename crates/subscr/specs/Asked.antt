-- What a session asks (RFC 8765, 6.2 and 6.4): questions with their IDs, in the order in which they were added.
--     AreAsked      at most so many, no ID twice, no question twice
--     has, question_of      whether an ID is there, and its question
--     id_of      the ID of a question
--     without      what is left where an ID goes
--     watches name, wants key      a question has the name; a question asks for the key
--     one_asks, asks_with      one of several asks for a key; a question does, or others do
use Rattle.std.specs.Prelude.{ℕ, ◌≤◌, Bool, not, ◌||◌, ◌==◌, List, length, Option, option_map, find, filter}
use Rattle.std.specs.List.{list_any, IsDistinct}
use Rattle.push_base.specs.Limits.{max_questions}
use Rattle.dnsname.specs.Names.{Labels, same_name}
use Rattle.rrset.specs.Records.{matches, same_question}
use Rattle.rrset.specs.declared.record.Key.{Key}
use Rattle.rrset.specs.declared.record.Question.{Question}

-- questions with their IDs
abbrev pub Asked : Type 0
Asked = List (ℕ × Question)

abbrev pub is_id : ℕ → ℕ × Question → Bool
is_id id e = e.0 == id

abbrev pub is_question : Question → ℕ × Question → Bool
is_question question e = same_question e.1 question

-- at most as many as a session may ask, each with an ID of its own, and none twice
pub record AreAsked (asked : Asked) : Type 0 where
  pub few : length asked ≤ max_questions
  pub ids : IsDistinct (λ e f. is_id f.0 e) asked
  pub questions : IsDistinct (λ e f. is_question f.1 e) asked

abbrev pub has : ℕ → Asked → Bool
has id asked = list_any (is_id id) asked

abbrev pub question_of : ℕ → Asked → Option Question
question_of id asked = option_map (λ e. e.1) (find (is_id id) asked)

abbrev pub id_of : Question → Asked → Option ℕ
id_of question asked = option_map (λ e. e.0) (find (is_question question) asked)

-- the others stay in their order (RFC 8765, 6.4)
abbrev pub without : ℕ → Asked → Asked
without id asked = filter (λ e. not (is_id id e)) asked

-- a question has this name, but for case
abbrev pub watches : Labels → Asked → Bool
watches name asked = list_any (λ e. same_name e.1.name name) asked

-- of several, each with a question, one asks for records of this key
abbrev pub one_asks : {X : Type 0} → (X → Question) → List X → Key → Bool
one_asks question xs key = list_any (λ x. matches (question x) key) xs

-- a question asks for records of this key
abbrev pub wants : Key → Asked → Bool
wants key asked = one_asks (λ e. e.1) asked key

-- the question asks for records of this key, or others do
abbrev pub asks_with : Question → (Key → Bool) → Key → Bool
asks_with question others key = matches question key || others key
