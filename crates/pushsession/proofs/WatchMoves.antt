-- What a session's calls do to the names that it watches.
--     moves-none, moves-then      nothing changes; one call and then another
--     moves-more, moves-back      a question comes; its name is watched, and no longer
--     moves-next      of several, one after the other goes
--     moves-less      the question of an ID goes, if there is one
use Rattle.std.proofs.Common.{◌≡◌, ℕ, ◌+◌, ◌-◌, ◌<◌, Bool, true, false, cond, ◌&&◌, List, [], ◌∷◌, ◌++◌, length, drop, get_or, Option, Some, None, refl, sym, ◌∙◌, ap, subst, arith}
use Rattle.std.specs.Prelude.{◌==◌, find, option_map}
use Rattle.std.proofs.lemmas.Bool.{eq-eqb}
use Rattle.std.proofs.lemmas.List.{drop_more}
use Rattle.std.proofs.lemmas.List.Sums.{sum_by-cons}
use Rattle.dnsname.specs.Names.{Labels, same_name}
use Rattle.rrset.specs.declared.record.Question.{Question}
use Rattle.rrset.proofs.Distinct.{any_found, none_left_out}
use Rattle.subscr.specs.Asked.{Asked, AreAsked, is_id, question_of, without}
use Rattle.subscr.specs.Watching.{Watching, once_more, once_less, questions_of}
use Rattle.subscr.proofs.Counts.{less_by, one}
use Rattle.subscr.proofs.Questions.{questions-less, questions-more}
use Rattle.pushsession.specs.Watched.{MovesWatches}

-- each name and session
abbrev pub Pointwise : Watching → Watching → Type 0
Pointwise new old = (name : Labels) (another : ℕ) → new name another ≡ old name another

-- its own watches change where the name is the same
own-one : (number : ℕ) (b : Bool) (m n : ℕ) → cond (b && (number == number)) m n ≡ cond b m n
own-one number b m n = ap (λ (c : Bool). cond (b && c) m n) (eq-eqb number number refl) ∙ by b
  where
    by : (c : Bool) → cond (c && true) m n ≡ cond c m n
    by true = refl
    by false = refl

-- another's don't
other-one : (number another : ℕ) (b : Bool) (m n : ℕ) → (another == number) ≡ false → cond (b && (number == another)) m n ≡ n
other-one number another b m n away = ap (λ (c : Bool). cond (b && c) m n) (turned number another away) ∙ by b
  where
    turned : (k j : ℕ) → (j == k) ≡ false → (k == j) ≡ false
    turned k j apart = grind (arith, apart)

    by : (c : Bool) → cond (c && false) m n ≡ n
    by true = refl
    by false = refl

back : (b : Bool) (n : ℕ) → cond b (cond b (n + 1) n - 1) (cond b (n + 1) n) ≡ n
back true n = omega arith
back false n = refl

module _ (number : ℕ) where
  pub moves-none : (old new : Watching) (asked : Asked) → Pointwise new old → MovesWatches number old new asked asked
  moves-none old new asked same = record { own = λ h name. same name number ∙ h name; others = λ name another _. same name another }

  pub moves-then : (old mid new : Watching) (a b c : Asked) → MovesWatches number old mid a b → MovesWatches number mid new b c → MovesWatches number old new a c
  moves-then old mid new a b c first second = record { own = λ h. second.own (first.own h); others = λ name another away. second.others name another away ∙ first.others name another away }

  pub moves-more : (old new : Watching) (asked : Asked) (id : ℕ) (question : Question) → Pointwise new (once_more question.name number old) → MovesWatches number old new asked (asked ++ (id, question) ∷ [])
  moves-more old new asked id question more = record {
    own = λ h name.
        more name number
        ∙ own-one number (same_name question.name name) (old name number + 1) (old name number)
        ∙ ap (λ (n : ℕ). cond (same_name question.name name) (n + 1) n) (h name)
        ∙ sym (questions-more name id question asked);
    others = λ name another away. more name another ∙ other-one number another (same_name question.name name) (old name another + 1) (old name another) away;
  }

  -- a name is watched, and no longer
  pub moves-back : (old mid new : Watching) (asked : Asked) (name : Labels) → Pointwise mid (once_more name number old) → Pointwise new (once_less name number mid) → MovesWatches number old new asked asked
  moves-back old mid new asked name more less = record {
    own = λ h other.
        less other number
        ∙ own-one number (same_name name other) (mid other number - 1) (mid other number)
        ∙ ap (λ (n : ℕ). cond (same_name name other) (n - 1) n) (more other number ∙ own-one number (same_name name other) (old other number + 1) (old other number))
        ∙ back (same_name name other) (old other number)
        ∙ h other;
    others = λ other another away.
        less other another
        ∙ other-one number another (same_name name other) (mid other another - 1) (mid other another) away
        ∙ more other another
        ∙ other-one number another (same_name name other) (old other another + 1) (old other another) away;
  }

  -- at each name one question less is asked where it has the name
  goes : (old new : Watching) (asked left : Asked) (e : ℕ × Question)
      → ((name : Labels) → questions_of name left ≡ cond (same_name e.1.name name) (questions_of name asked - 1) (questions_of name asked))
      → Pointwise new (once_less e.1.name number old) → MovesWatches number old new asked left
  goes old new asked left e fewer less = record {
    own = λ h name.
        less name number
        ∙ own-one number (same_name e.1.name name) (old name number - 1) (old name number)
        ∙ ap (λ (n : ℕ). cond (same_name e.1.name name) (n - 1) n) (h name)
        ∙ sym (fewer name);
    others = λ name another away. less name another ∙ other-one number another (same_name e.1.name name) (old name another - 1) (old name another) away;
  }

  pub moves-next : (old now new : Watching) (asked : Asked) (i : ℕ) (e : ℕ × Question) → i < length asked → e ≡ get_or asked i e → MovesWatches number old now asked (drop i asked)
      → Pointwise new (once_less e.1.name number now) → MovesWatches number old new asked (drop (i + 1) asked)
  moves-next old now new asked i e within is so_far less =
      let rest = drop (i + 1) asked in
      let first : drop i asked ≡ e ∷ rest = drop_more asked i e within ∙ ap (λ (d : ℕ × Question). d ∷ rest) (sym is) in
      moves-then old now new asked (e ∷ rest) rest (subst (MovesWatches number old now asked) first so_far) (goes now new (e ∷ rest) rest e (fewer rest) less)
    where
      fewer : (rest : Asked) (name : Labels) → questions_of name rest ≡ cond (same_name e.1.name name) (questions_of name (e ∷ rest) - 1) (questions_of name (e ∷ rest))
      fewer rest name =
          let all = sum_by-cons (λ (d : ℕ × Question). one (same_name d.1.name name)) e rest in
          less_by (same_name e.1.name name) (questions_of name rest) (questions_of name (e ∷ rest)) (omega (arith, all))

  pub moves-less : (old new : Watching) (asked : Asked) (id : ℕ) (question : Question) → AreAsked asked → question_of id asked ≡ Some question
      → Pointwise new (once_less question.name number old) → MovesWatches number old new asked (without id asked)
  moves-less old new asked id question are at less = by (find (is_id id) asked) refl at
    where
      by : (found : Option (ℕ × Question)) → find (is_id id) asked ≡ found → option_map (λ e. e.1) found ≡ Some question → MovesWatches number old new asked (without id asked)
      by None is at = absurd cc
      by (Some e) is at =
          let same : question ≡ e.1 = cc in
          goes old new asked (without id asked) e (λ name. questions-less name id e asked are is) (subst (λ (q : Question). Pointwise new (once_less q.name number old)) same less)

  pub moves-nothing : (old : Watching) (asked : Asked) (id : ℕ) → question_of id asked ≡ None → MovesWatches number old old asked (without id asked)
  moves-nothing old asked id none = subst (MovesWatches number old old asked) (sym (none_left_out (is_id id) asked (any_found (is_id id) asked (by (find (is_id id) asked) none)))) (moves-none old old asked (λ name another. refl))
    where
      by : (found : Option (ℕ × Question)) → option_map (λ e. e.1) found ≡ None → found ≡ None
      by None at = refl
      by (Some e) at = absurd cc
