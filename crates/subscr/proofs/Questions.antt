-- How many questions have a name, behind one more and one less; and how many sessions watch one.
use Rattle.std.proofs.Common.{◌≡◌, ℕ, ◌+◌, ◌-◌, Bool, true, false, cond, not, ◌||◌, List, [], ◌∷◌, ◌++◌, Some, refl, sym, ap, ◌∙◌, arith}
use Rattle.std.specs.Prelude.{nat_lt}
use Rattle.std.specs.List.{count_by, find, list_any}
use Rattle.std.proofs.lemmas.List.Sums.{sum_by-cons, sum_by_push}
use Rattle.dnsname.specs.Names.{Labels, same_name}
use Rattle.rrset.specs.declared.record.Question.{Question}
use Rattle.rrset.proofs.Distinct.{IsLone, failing, lone, none_left_out}
use Rattle.subscr.specs.Asked.{AreAsked, Asked, is_id, watches, without}
use Rattle.subscr.specs.Watching.{questions_of}
use Rattle.subscr.proofs.Asking.{one_id, same_id}
use Rattle.subscr.proofs.Counts.{less_by, more_by, one, there}

module _ {X : Type 0} (p q : X → Bool) where
  -- the one that passes p goes
  pub count-failing : (xs : List X) (e : X) → IsLone p xs → find p xs ≡ Some e → count_by q (failing p xs) + one (q e) ≡ count_by q xs
  count-failing [] e alone is = absurd cc
  count-failing (x ∷ xs) e alone is = by (p x) refl is (count-failing xs e alone.1)
    where
      by : (t : Bool) → p x ≡ t → cond t (Some x) (find p xs) ≡ Some e → (find p xs ≡ Some e → count_by q (failing p xs) + one (q e) ≡ count_by q xs)
          → count_by q (cond (not t) (x ∷ failing p xs) (failing p xs)) + one (q e) ≡ count_by q (x ∷ xs)
      by true this is rest =
          let same : x ≡ e = cc in
          let left = ap (count_by q) (none_left_out p xs (alone.0 this)) in
          let here = ap (λ (y : X). one (q y)) same in
          omega (arith, left, here, sum_by-cons (λ (y : X). one (q y)) x xs)
      by false this is rest = omega (arith, rest is, sum_by-cons (λ (y : X). one (q y)) x xs, sum_by-cons (λ (y : X). one (q y)) x (failing p xs))

module _ {X : Type 0} (q : X → Bool) where
  pub count-some : (xs : List X) → nat_lt 0 (count_by q xs) ≡ list_any q xs
  count-some [] = refl
  count-some (x ∷ xs) = ap (nat_lt 0) (sum_by-cons (λ (y : X). one (q y)) x xs) ∙ sym (there (q x) (count_by q xs)) ∙ ap (λ (b : Bool). q x || b) (count-some xs)

pub questions-some : (name : Labels) (asked : Asked) → nat_lt 0 (questions_of name asked) ≡ watches name asked
questions-some name asked = count-some (λ e. same_name e.1.name name) asked

pub questions-more : (other : Labels) (id : ℕ) (question : Question) (asked : Asked)
    → questions_of other (asked ++ (id, question) ∷ []) ≡ cond (same_name question.name other) (questions_of other asked + 1) (questions_of other asked)
questions-more other id question asked =
    sum_by_push (λ (e : ℕ × Question). one (same_name e.1.name other)) asked (id, question) ∙ more_by (same_name question.name other) (questions_of other asked)

-- the question of an ID goes
pub questions-less : (other : Labels) (id : ℕ) (e : ℕ × Question) (asked : Asked) → AreAsked asked → find (is_id id) asked ≡ Some e
    → questions_of other (without id asked) ≡ cond (same_name e.1.name other) (questions_of other asked - 1) (questions_of other asked)
questions-less other id e asked are there =
    less_by (same_name e.1.name other) (questions_of other (without id asked)) (questions_of other asked)
    (count-failing (is_id id) (λ d. same_name d.1.name other) asked e (lone same_id (is_id id) (one_id id) asked are.ids) there)
