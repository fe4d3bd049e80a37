-- The first refusal of a list that is gone through.
use Rattle.std.proofs.Common.{◌≡◌, ℕ, ◌+◌, ◌<◌, List, length, get_or, drop, map, Option, Some, None, sym, ap, ◌∙◌}
use Rattle.std.proofs.lemmas.List.{at_drop_more}
use Rattle.push_base.specs.Cases.{first_refused}

abbrev pub or_first : Option ℕ → Option ℕ → Option ℕ
or_first first rest = elim first [ Some code ↦ Some code | None ↦ rest ]

module _ {X Y : Type 0} (refusal : Y → Option ℕ) (f : X → Y) (xs : List X) (i : ℕ) (x : X) (h : i < length xs) (is : x ≡ get_or xs i x) (r : Option ℕ) (given : r ≡ refusal (f x)) where
  pub refused_at : first_refused refusal (map f (drop i xs)) ≡ or_first r (first_refused refusal (map f (drop (i + 1) xs)))
  refused_at =
      at_drop_more (λ ys. first_refused refusal (map f ys)) xs i x h
      ∙ ap (λ y. or_first (refusal (f y)) (first_refused refusal (map f (drop (i + 1) xs)))) (sym is)
      ∙ ap (λ o. or_first o (first_refused refusal (map f (drop (i + 1) xs)))) (sym given)

  pub refused_turn : r ≡ None → first_refused refusal (map f (drop (i + 1) xs)) ≡ first_refused refusal (map f (drop i xs))
  refused_turn none = sym (refused_at ∙ ap (λ o. or_first o (first_refused refusal (map f (drop (i + 1) xs)))) none)

  pub refused_stop : (code : ℕ) → r ≡ Some code → Some code ≡ first_refused refusal (map f (drop i xs))
  refused_stop code some = sym (refused_at ∙ ap (λ o. or_first o (first_refused refusal (map f (drop (i + 1) xs)))) some)
