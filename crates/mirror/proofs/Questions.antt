-- Entries with questions that are no two one: what counts is the list of the questions.
use Rattle.std.proofs.Common.{◌≡◌, ℕ, zero, suc, false, List, [], ◌∷◌, map, get_or, set, None, Some, refl, sym, ap, subst, ◌∙◌}
use Rattle.std.specs.List.{IsDistinct, AllByRecursion, list_any, position}
use Rattle.rrset.specs.Records.{same_question}
use Rattle.rrset.specs.declared.record.Question.{Question}
use Rattle.rrset.proofs.Distinct.{TakesOut, no_place, lone, at_place}
use Rattle.rrset.proofs.SameQuestions.{one_question}
use Rattle.mirror.specs.Held.{AreHeld, is_of}

abbrev pub questions_of : {S : Type 0} → List (Question × S) → List Question
questions_of entries = map (λ e. e.0) entries

all_to : {S : Type 0} (P : Question → Type 0) (entries : List (Question × S)) → AllByRecursion (λ e. P e.0) entries → AllByRecursion P (questions_of entries)
all_to P [] all = tt
all_to P (e ∷ entries) all = (all.0, all_to P entries all.1)

all_from : {S : Type 0} (P : Question → Type 0) (entries : List (Question × S)) → AllByRecursion P (questions_of entries) → AllByRecursion (λ e. P e.0) entries
all_from P [] all = tt
all_from P (e ∷ entries) all = (all.0, all_from P entries all.1)

to_questions : {S : Type 0} (entries : List (Question × S)) → AreHeld entries → IsDistinct same_question (questions_of entries)
unfolding IsDistinct
to_questions [] h = tt
to_questions (e ∷ entries) h = (all_to (λ q. same_question e.0 q ≡ false) entries h.0, to_questions entries h.1)

from_questions : {S : Type 0} (entries : List (Question × S)) → IsDistinct same_question (questions_of entries) → AreHeld entries
unfolding IsDistinct
from_questions [] h = tt
from_questions (e ∷ entries) h = (all_from (λ q. same_question e.0 q ≡ false) entries h.0, from_questions entries h.1)

pub same_questions : {S T : Type 0} (entries : List (Question × S)) (others : List (Question × T)) → questions_of entries ≡ questions_of others → AreHeld entries → AreHeld others
same_questions entries others same h = from_questions others (subst (IsDistinct same_question) same (to_questions entries h))

-- another set at a question's place
pub questions_of-set : {S : Type 0} (entries : List (Question × S)) (i : ℕ) (d : Question × S) (s : S) → questions_of entries ≡ questions_of (set entries i ((get_or entries i d).0, s))
questions_of-set [] i d s = refl
questions_of-set (e ∷ entries) zero d s = refl
questions_of-set (e ∷ entries) (suc i) d s = ap (λ (l : List Question). e.0 ∷ l) (questions_of-set entries i d s)

-- ---- what a search found

pub there : {S : Type 0} (question : Question) (entries searched : List (Question × S)) (i : ℕ) → searched ≡ entries → Some i ≡ position (is_of question) searched → position (is_of question) entries ≡ Some i
there question entries searched i are is = ap (position (is_of question)) (sym are) ∙ sym is

pub nowhere : {S : Type 0} (question : Question) (entries searched : List (Question × S)) → searched ≡ entries → None ≡ position (is_of question) searched → list_any (is_of question) entries ≡ false
nowhere question entries searched are is = no_place (is_of question) entries (ap (position (is_of question)) (sym are) ∙ sym is)

pub taken_out : {S : Type 0} (question : Question) (entries : List (Question × S)) (i : ℕ) (d : Question × S) → AreHeld entries → position (is_of question) entries ≡ Some i → TakesOut (is_of question) entries i d
taken_out question entries i d are is =
    at_place (is_of question) entries i d (lone (λ e f. is_of f.0 e) (is_of question) (λ e f first second. one_question e.0 f.0 question first second) entries are) is
