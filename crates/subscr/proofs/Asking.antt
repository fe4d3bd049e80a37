-- Questions with their IDs stay such, with one more and with one less.
use Rattle.std.proofs.Common.{◌≡◌, ℕ, ◌<◌, Bool, true, false, not, [], ◌∷◌, ◌++◌, length, Option, Some, None, refl, sym, ◌∙◌, arith, length-append}
use Rattle.std.specs.List.{list_any, find, position}
use Rattle.std.specs.Option.{option_map}
use Rattle.std.proofs.lemmas.Bool.{eqb-true, eq-eqb}
use Rattle.std.proofs.lemmas.List.Sums.{length-filter, count_by-le-length}
use Rattle.push_base.specs.Limits.{max_questions}
use Rattle.rrset.specs.declared.record.Question.{Question}
use Rattle.rrset.proofs.Distinct.{TakesOut, any_found, at_place, lone, distinct_filter, distinct_push, distinct_none}
use Rattle.subscr.specs.Asked.{Asked, AreAsked, is_id, is_question, has, id_of, without}

abbrev pub same_id : ℕ × Question → ℕ × Question → Bool
same_id e f = is_id f.0 e

abbrev pub same_asked : ℕ × Question → ℕ × Question → Bool
same_asked e f = is_question f.1 e

pub none_asked : AreAsked []
none_asked = record { few = omega arith; ids = distinct_none same_id; questions = distinct_none same_asked }

not_asked : (question : Question) (asked : Asked) → id_of question asked ≡ None → list_any (is_question question) asked ≡ false
not_asked question asked h = any_found (is_question question) asked (by (find (is_question question) asked) h)
  where
    by : (found : Option (ℕ × Question)) → option_map (λ e. e.0) found ≡ None → found ≡ None
    by None e = refl
    by (Some x) e = absurd cc

pub added : (id : ℕ) (question : Question) (asked : Asked) → AreAsked asked → has id asked ≡ false → id_of question asked ≡ None → length asked < max_questions
    → AreAsked (asked ++ (id, question) ∷ [])
added id question asked are new_id new_question room = record {
  few = omega (arith, length-append asked ((id, question) ∷ []));
  ids = distinct_push same_id asked (id, question) are.ids new_id;
  questions = distinct_push same_asked asked (id, question) are.questions (not_asked question asked new_question);
}

pub left : (id : ℕ) (asked : Asked) → AreAsked asked → AreAsked (without id asked)
left id asked are = record {
  few = omega (arith, are.few, length-filter (λ e. not (is_id id e)) asked, count_by-le-length (λ e. not (is_id id e)) asked);
  ids = distinct_filter same_id (λ e. not (is_id id e)) asked are.ids;
  questions = distinct_filter same_asked (λ e. not (is_id id e)) asked are.questions;
}

pub one_id : (id : ℕ) (e f : ℕ × Question) → is_id id e ≡ true → is_id id f ≡ true → same_id e f ≡ true
one_id id e f first second = eq-eqb e.0 f.0 (eqb-true e.0 id first ∙ sym (eqb-true f.0 id second))

pub taken_out : (id : ℕ) (asked : Asked) (i : ℕ) (d : ℕ × Question) → AreAsked asked → position (is_id id) asked ≡ Some i → TakesOut (is_id id) asked i d
taken_out id asked i d are is = at_place (is_id id) asked i d (lone same_id (is_id id) (one_id id) asked are.ids) is
