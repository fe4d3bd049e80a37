-- The ends of first answers stay those of the questions, with one more and with one less.
use Rattle.std.proofs.Common.{◌≡◌, ◌∙◌, ℕ, Bool, true, false, cond, not, List, [], ◌∷◌, ◌++◌, map, refl, sym, ap}
use Rattle.std.specs.Prelude.{filter, ◌==◌}
use Rattle.std.proofs.lemmas.List.{map-append}
use Rattle.rrset.specs.declared.record.Question.{Question}
use Rattle.subscr.specs.Asked.{Asked, without}
use Rattle.pushsession.specs.Kept.{Filled, HasEnds, without_filled}

kept : {X : Type 0} (b : Bool) (x : ℕ × X) (xs : List (ℕ × X)) (ns : List ℕ) → map (λ e. e.0) xs ≡ ns → map (λ e. e.0) (cond b (x ∷ xs) xs) ≡ cond b (x.0 ∷ ns) ns
kept true x xs ns e = ap (λ l. x.0 ∷ l) e
kept false x xs ns e = e

ids_without : {X : Type 0} (id : ℕ) (xs : List (ℕ × X)) → map (λ e. e.0) (filter (λ e. not (e.0 == id)) xs) ≡ filter (λ n. not (n == id)) (map (λ e. e.0) xs)
ids_without id [] = refl
ids_without id (x ∷ xs) = kept (not (x.0 == id)) x (filter (λ e. not (e.0 == id)) xs) (filter (λ n. not (n == id)) (map (λ e. e.0) xs)) (ids_without id xs)

pub ends_without : (id : ℕ) (asked : Asked) (filled : Filled) → HasEnds asked filled → HasEnds (without id asked) (without_filled id filled)
ends_without id asked filled ends = ids_without id filled ∙ ap (filter (λ n. not (n == id))) ends ∙ sym (ids_without id asked)

pub ends_added : (id end : ℕ) (question : Question) (asked : Asked) (filled : Filled) → HasEnds asked filled → HasEnds (asked ++ (id, question) ∷ []) (filled ++ (id, end) ∷ [])
ends_added id end question asked filled ends =
    map-append (λ (e : ℕ × ℕ). e.0) filled ((id, end) ∷ []) ∙ ap (λ (l : List ℕ). l ++ id ∷ []) ends ∙ sym (map-append (λ (e : ℕ × Question). e.0) asked ((id, question) ∷ []))
