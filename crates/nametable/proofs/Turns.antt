-- A list of which one element after the other is changed.
--     front f i xs      the first elements are changed
use Rattle.std.proofs.Common.{◌≡◌, ℕ, zero, suc, ◌+◌, ◌<◌, ◌≤◌, List, [], ◌∷◌, length, get_or, set, map, refl, ap, subst, ◌∙◌, arith}

module _ {X : Type 0} (f : X → X) where
  abbrev pub front : ℕ → List X → List X
  front zero xs = xs
  front (suc i) [] = []
  front (suc i) (x ∷ xs) = f x ∷ front i xs

  front-all : (i : ℕ) (xs : List X) → length xs ≤ i → front i xs ≡ map f xs
  front-all zero [] h = refl
  front-all zero (x ∷ xs) h = absurd (omega (arith, h))
  front-all (suc i) [] h = refl
  front-all (suc i) (x ∷ xs) h = ap (λ l. f x ∷ l) (front-all i xs (omega (arith, h)))

  front-length : (i : ℕ) (xs : List X) → length (front i xs) ≡ length xs
  front-length zero xs = refl
  front-length (suc i) [] = refl
  front-length (suc i) (x ∷ xs) = ap (λ n. suc n) (front-length i xs)

  front-next : (i : ℕ) (xs : List X) (e : X) → i < length (front i xs) → e ≡ get_or (front i xs) i e → set (front i xs) i (f e) ≡ front (suc i) xs
  front-next zero [] e h is = absurd (omega (arith, h))
  front-next zero (x ∷ xs) e h is = ap (λ (y : X). f y ∷ xs) is
  front-next (suc i) [] e h is = absurd (omega (arith, h))
  front-next (suc i) (x ∷ xs) e h is = ap (λ l. f x ∷ l) (front-next i xs e (omega (arith, h)) is)

  turn-here : (old now : List X) (i : ℕ) (e new : X) → i < length now → e ≡ get_or now i e → new ≡ f e → now ≡ front i old → set now i new ≡ front (i + 1) old
  turn-here old now i e new h is new_is so_far =
      let next : suc i ≡ i + 1 = omega arith in
      ap (λ n. set now i n) new_is ∙ ap (λ l. set l i (f e)) so_far
      ∙ front-next i old e (subst (λ (l : List X). i < length l) so_far h) (subst (λ (l : List X). e ≡ get_or l i e) so_far is)
      ∙ ap (λ n. front n old) next

  -- one element more is changed
  pub turn : (old now : List X) (i : ℕ) (d new : X) → i < length now → d ≡ get_or now i d → new ≡ f (get_or now i d) → now ≡ front i old → set now i new ≡ front (i + 1) old
  turn old now i d new h is new_is so_far = turn-here old now i (get_or now i d) new h (ap (get_or now i) is) new_is so_far

  pub ends : (old now : List X) (i : ℕ) → length now ≤ i → now ≡ front i old → now ≡ map f old
  ends old now i h so_far = so_far ∙ front-all i old (omega (arith, h, ap length so_far, front-length i old))
