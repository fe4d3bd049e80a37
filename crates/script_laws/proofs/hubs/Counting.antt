-- Numbers in lists, by how often each is there.
--     counted-cons, counted-option      of one more, and of one that there may be
--     none-above, below-counted      all are below a bound where none from there on is counted, and the other way round
--     counted-left      of those without one
use Rattle.std.proofs.Common.{◌≡◌, ℕ, ◌+◌, ◌<◌, ◌≤◌, Bool, true, false, cond, not, List, [], ◌∷◌, map, filter, Option, Some, None, sym, ◌∙◌, ap, refl, arith, true≢false}
use Rattle.std.specs.Prelude.{nat_lt, ◌==◌}
use Rattle.std.specs.List.{AllByRecursion, cons_option}
use Rattle.std.proofs.lemmas.Bool.{ltb-true, ltb-false}
use Rattle.std.proofs.lemmas.List.Sums.{sum_by-cons}
use Rattle.pushclient.specs.SoundClients.{count_of}
use Rattle.livesessions.proofs.SessionLists.{same-number, number-itself, other-number}

-- one where both are the same
abbrev pub one_where : ℕ → ℕ → ℕ
one_where m n = cond (m == n) 1 0

abbrev pub one_of : ℕ → Option ℕ → ℕ
one_of n None = 0
one_of n (Some m) = one_where m n

pub counted-cons : (n m : ℕ) (ms : List ℕ) → count_of n (m ∷ ms) ≡ one_where m n + count_of n ms
counted-cons n m ms = sum_by-cons (λ (k : ℕ). cond (k == n) 1 0) m ms

pub counted-option : (n : ℕ) (o : Option ℕ) (ms : List ℕ) → count_of n (cons_option o ms) ≡ one_of n o + count_of n ms
counted-option n None ms = omega arith
counted-option n (Some m) ms = counted-cons n m ms

pub one-itself : (n : ℕ) → one_where n n ≡ 1
one-itself n = ap (λ (b : Bool). cond b 1 0) (number-itself n)

pub one-other : (m n : ℕ) → (m ≡ n → ⊥) → one_where m n ≡ 0
one-other m n apart = ap (λ (b : Bool). cond b 1 0) (other-number m n apart)

-- ---- below a bound

abbrev pub AreBelow : ℕ → List ℕ → Type 0
AreBelow bound ns = AllByRecursion (λ n. n < bound) ns

pub none-above : (bound : ℕ) (ms : List ℕ) → AreBelow bound ms → (n : ℕ) → bound ≤ n → count_of n ms ≡ 0
none-above bound [] all n high = refl
none-above bound (m ∷ ms) all n high =
    let apart : m ≡ n → ⊥ = λ same. (let low : m < bound = all.0 in absurd (omega (arith, same, low, high))) in
    let none = one-other m n apart in
    let rest = none-above bound ms all.1 n high in
    let all_of = counted-cons n m ms in
    omega (arith, none, rest, all_of)

pub below-counted : (bound : ℕ) (ms : List ℕ) → ((n : ℕ) → bound ≤ n → count_of n ms ≡ 0) → AreBelow bound ms
below-counted bound [] none = tt
below-counted bound (m ∷ ms) none = (by (nat_lt m bound) refl, below-counted bound ms (λ n high. rest n (none n high)))
  where
    rest : (n : ℕ) → count_of n (m ∷ ms) ≡ 0 → count_of n ms ≡ 0
    rest n is = let all_of = counted-cons n m ms in omega (arith, is, all_of)

    by : (b : Bool) → nat_lt m bound ≡ b → m < bound
    by true is = ltb-true m bound is
    by false is =
        let zero_of = none m (ltb-false m bound is) in
        let one = one-itself m in
        let all_of = counted-cons m m ms in
        absurd (omega (arith, zero_of, one, all_of))

-- ---- without one

module _ {S : Type 0} (gone n : ℕ) where
  abbrev numbers_of : List (ℕ × S) → List ℕ
  numbers_of es = map (λ (e : ℕ × S). e.0) es

  abbrev left : List (ℕ × S) → List (ℕ × S)
  left es = filter (λ (e : ℕ × S). not (e.0 == gone)) es

  pub counted-left : (es : List (ℕ × S)) → count_of n (numbers_of (left es)) ≡ cond (gone == n) 0 (count_of n (numbers_of es))
  counted-left [] = by (gone == n)
    where
      by : (b : Bool) → count_of n (numbers_of (left [])) ≡ cond b 0 (count_of n (numbers_of []))
      by true = refl
      by false = refl
  counted-left (e ∷ es) = by (e.0 == gone) refl (gone == n) refl (counted-left es)
    where
      by : (a : Bool) → (e.0 == gone) ≡ a → (b : Bool) → (gone == n) ≡ b → count_of n (numbers_of (left es)) ≡ cond b 0 (count_of n (numbers_of es))
          → count_of n (numbers_of (cond (not a) (e ∷ left es) (left es))) ≡ cond b 0 (count_of n (numbers_of (e ∷ es)))
      by true is true at rest = rest
      by true is false at rest =
          let same = same-number e.0 gone is in
          let apart : e.0 ≡ n → ⊥ = λ here. true≢false (sym (number-itself n) ∙ ap (λ m. m == n) (sym here ∙ same) ∙ at) in
          let none = one-other e.0 n apart in
          let all_of = counted-cons n e.0 (numbers_of es) in
          omega (arith, none, all_of, rest)
      by false is true at rest =
          let same = same-number gone n at in
          let apart : e.0 ≡ n → ⊥ = λ here. true≢false (sym (number-itself gone) ∙ ap (λ m. m == gone) (same ∙ sym here) ∙ is) in
          let none = one-other e.0 n apart in
          let all_of = counted-cons n e.0 (numbers_of (left es)) in
          omega (arith, none, all_of, rest)
      by false is false at rest =
          let all_of = counted-cons n e.0 (numbers_of (left es)) in
          let all_were = counted-cons n e.0 (numbers_of es) in
          omega (arith, all_of, all_were, rest)
