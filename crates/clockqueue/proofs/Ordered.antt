-- Lists in strict order: a search in them, one more element, and elements that are alone in passing a test.
use Rattle.std.proofs.Common.{◌≡◌, ℕ, zero, suc, ◌+◌, ◌<◌, ◌≤◌, Bool, true, false, cond, not, List, [], ◌∷◌, length, get_or, Option, Some, None, refl, sym, ap, ◌∙◌, arith}
use Rattle.std.specs.Ordering.{is_lt, match_ordering, ordering_reverse, ordering_index}
use Rattle.std.specs.Cmp.{IsTotalOrder}
use Rattle.std.specs.List.{AllByRecursion, AllWithin, IsDistinct, filter, find, insert, remove, position, position_or_len}
use Rattle.std.specs.List.Sorted.{IsStrictlySortedBy, IsNonDecreasingBy}
use Rattle.std.specs.BTreeSet.{insert_key}
use Rattle.std.specs.declared.cmp.Ordering.{Ordering}
use Rattle.std.specs.declared.cmp.Ordering.TheVariants.{Less, Equal, Greater}
use Rattle.std.proofs.lemmas.Bool.{lt-ltb}
use Rattle.std.proofs.lemmas.List.Sorted.{searchable_from_sorted}

pub all_at : {X : Type 0} (P : X → Type 0) (xs : List X) → AllByRecursion P xs → (i : ℕ) (d : X) → i < length xs → P (get_or xs i d)
all_at P [] h i d within = absurd (omega arith)
all_at P (x ∷ xs) h zero d within = h.0
all_at P (x ∷ xs) h (suc i) d within = all_at P xs h.1 i d (omega arith)

pub all_map : {X : Type 0} (P Q : X → Type 0) → ((x : X) → P x → Q x) → (xs : List X) → AllByRecursion P xs → AllByRecursion Q xs
all_map P Q f [] h = tt
all_map P Q f (x ∷ xs) h = (f x h.0, all_map P Q f xs h.1)

all_filter : {X : Type 0} (P : X → Type 0) (p : X → Bool) (xs : List X) → AllByRecursion P xs → AllByRecursion P (filter p xs)
all_filter P p [] h = tt
all_filter P p (x ∷ xs) h = by (p x) (all_filter P p xs h.1)
  where
    by : (b : Bool) → AllByRecursion P (filter p xs) → AllByRecursion P (cond b (x ∷ filter p xs) (filter p xs))
    by true rest = (h.0, rest)
    by false rest = rest

pub distinct_filter : {X : Type 0} (e : X → X → Bool) (p : X → Bool) (xs : List X) → IsDistinct e xs → IsDistinct e (filter p xs)
unfolding IsDistinct
distinct_filter e p [] h = tt
distinct_filter e p (x ∷ xs) h = by (p x) (all_filter (λ y. e x y ≡ false) p xs h.0) (distinct_filter e p xs h.1)
  where
    by : (b : Bool) → AllByRecursion (λ y. e x y ≡ false) (filter p xs) → IsDistinct e (filter p xs) → IsDistinct e (cond b (x ∷ filter p xs) (filter p xs))
    by true apart rest = (apart, rest)
    by false apart rest = rest

-- ---- the one that passes a test

module _ {X : Type 0} (e : X → X → Bool) (p : X → Bool) where
  abbrev pub failing : List X → List X
  failing xs = filter (λ x. not (p x)) xs

  pub none_left_out : (xs : List X) → AllByRecursion (λ y. p y ≡ false) xs → failing xs ≡ xs
  none_left_out [] h = refl
  none_left_out (x ∷ xs) h = ap (λ (b : Bool). cond (not b) (x ∷ failing xs) (failing xs)) h.0 ∙ ap (λ (l : List X). x ∷ l) (none_left_out xs h.1)

  pub none_found : (xs : List X) → AllByRecursion (λ y. p y ≡ false) xs → find p xs ≡ None
  none_found [] h = refl
  none_found (x ∷ xs) h = ap (λ (b : Bool). cond b (Some x) (find p xs)) h.0 ∙ none_found xs h.1

  pub not_found : (xs : List X) → find p xs ≡ None → AllByRecursion (λ y. p y ≡ false) xs
  not_found [] h = tt
  not_found (x ∷ xs) h = by (p x) refl h (not_found xs)
    where
      by : (b : Bool) → p x ≡ b → cond b (Some x) (find p xs) ≡ None → (find p xs ≡ None → AllByRecursion (λ y. p y ≡ false) xs) → AllByRecursion (λ y. p y ≡ false) (x ∷ xs)
      by true is none rest = absurd cc
      by false is none rest = (is, rest none)

  placed : (xs : List X) (found : X) → find p xs ≡ Some found → position_or_len p xs < length xs
  placed [] found h = absurd cc
  placed (x ∷ xs) found h = by (p x) h (placed xs found)
    where
      by : (b : Bool) → cond b (Some x) (find p xs) ≡ Some found → (find p xs ≡ Some found → position_or_len p xs < length xs) → cond (not b) (1 + position_or_len p xs) 0 < suc (length xs)
      by true is rest = omega arith
      by false is rest = omega (arith, rest is)

  pub no_place : (xs : List X) → position p xs ≡ None → find p xs ≡ None
  no_place xs h = by (find p xs) refl
    where
      by : (found : Option X) → find p xs ≡ found → find p xs ≡ None
      by None is = is
      by (Some x) is =
          let there : Some (position_or_len p xs) ≡ None = sym (ap (λ (b : Bool). cond b (Some (position_or_len p xs)) None) (lt-ltb _ _ (placed xs x is))) ∙ h in
          absurd cc

  -- the element at an index is the one that passes
  pub record TakesOut (xs : List X) (i : ℕ) (d : X) : Type 0 where
    pub left : remove xs i ≡ failing xs
    pub found : find p xs ≡ Some (get_or xs i d)

  others_fail : ((x y : X) → p x ≡ true → p y ≡ true → e x y ≡ true) → (x : X) → p x ≡ true → (xs : List X) → AllByRecursion (λ y. e x y ≡ false) xs → AllByRecursion (λ y. p y ≡ false) xs
  others_fail one x passes [] h = tt
  others_fail one x passes (y ∷ ys) h = (by (p y) refl, others_fail one x passes ys h.1)
    where
      by : (b : Bool) → p y ≡ b → p y ≡ false
      by true is = let same = one x y passes is in let apart = h.0 in absurd cc
      by false is = is

  pub taken_out : ((x y : X) → p x ≡ true → p y ≡ true → e x y ≡ true) → (xs : List X) → IsDistinct e xs → (i : ℕ) (d : X) → i < length xs → p (get_or xs i d) ≡ true → TakesOut xs i d
  unfolding IsDistinct
  taken_out one [] h i d within passes = absurd (omega arith)
  taken_out one (x ∷ xs) h zero d within passes = record {
    left = sym (ap (λ (b : Bool). cond (not b) (x ∷ failing xs) (failing xs)) passes ∙ none_left_out xs (others_fail one x passes xs h.0));
    found = ap (λ (b : Bool). cond b (Some x) (find p xs)) passes;
  }
  taken_out one (x ∷ xs) h (suc i) d within passes = by (p x) refl (taken_out one xs h.1 i d (omega arith) passes)
    where
      by : (b : Bool) → p x ≡ b → TakesOut xs i d → TakesOut (x ∷ xs) (suc i) d
      by true is rest =
          let same = one x (get_or xs i d) is passes in
          let apart = all_at (λ y. e x y ≡ false) xs h.0 i d (omega arith) in
          absurd cc
      by false is rest = record {
        left = ap (λ (l : List X). x ∷ l) rest.left ∙ sym (ap (λ (b : Bool). cond (not b) (x ∷ failing xs) (failing xs)) is);
        found = ap (λ (b : Bool). cond b (Some x) (find p xs)) is ∙ rest.found;
      }

-- ---- a search, and one more

module _ {X : Type 0} {R : X → X → Ordering} (o : IsTotalOrder R) where
  pub rising : (xs : List X) → IsStrictlySortedBy R xs → (i j : ℕ) (d : X) → i < j → j < length xs → R (get_or xs i d) (get_or xs j d) ≡ Less
  unfolding IsStrictlySortedBy
  rising [] h i j d before within = absurd (omega arith)
  rising (x ∷ xs) h i zero d before within = absurd (omega arith)
  rising (x ∷ xs) h zero (suc j) d before within = all_at (λ y. R x y ≡ Less) xs h.0 j d (omega arith)
  rising (x ∷ xs) h (suc i) (suc j) d before within = rising xs h.1 i j d (omega arith) (omega arith)

  pub searchable : (xs : List X) (x : X) → IsStrictlySortedBy R xs → IsNonDecreasingBy (λ y. ordering_index (R y x)) xs
  searchable xs x h =
      searchable_from_sorted o (λ y. y) xs x
      (λ k d from within. ap is_lt (o.antisymm (get_or xs (k + 1) d) (get_or xs k d)) ∙ ap (λ r. is_lt (ordering_reverse r)) (rising xs h k (k + 1) d (omega arith) within))

  pub put_at : (x : X) (xs : List X) (i : ℕ) → i ≤ length xs → AllWithin (λ y. R y x ≡ Less) xs 0 i → AllWithin (λ y. R y x ≡ Greater) xs i (length xs) → insert xs i x ≡ insert_key R xs x
  put_at x [] zero within front back = refl
  put_at x [] (suc i) within front back = absurd (omega arith)
  put_at x (y ∷ ys) zero within front back =
      sym (ap (λ r. match_ordering r (x ∷ y ∷ ys) (y ∷ ys) (y ∷ insert_key R ys x)) (o.antisymm x y ∙ ap ordering_reverse (back zero y (omega arith) (omega arith))))
  put_at x (y ∷ ys) (suc i) within front back =
      ap (λ (l : List X). y ∷ l) (put_at x ys i (omega arith) (λ j d low high. front (suc j) d (omega arith) (omega arith)) (λ j d low high. back (suc j) d (omega arith) (omega arith)))
      ∙ sym (ap (λ r. match_ordering r (x ∷ y ∷ ys) (y ∷ ys) (y ∷ insert_key R ys x)) (o.antisymm x y ∙ ap ordering_reverse (front zero y (omega arith) (omega arith))))

  all_insert : (P : X → Type 0) (x : X) (xs : List X) → P x → AllByRecursion P xs → AllByRecursion P (insert_key R xs x)
  all_insert P x [] one h = (one, tt)
  all_insert P x (y ∷ ys) one h = by (R x y) (all_insert P x ys one h.1)
    where
      by : (r : Ordering) → AllByRecursion P (insert_key R ys x) → AllByRecursion P (match_ordering r (x ∷ y ∷ ys) (y ∷ ys) (y ∷ insert_key R ys x))
      by Less rest = (one, h)
      by Equal rest = h
      by Greater rest = (h.0, rest)

  pub sorted_insert : (x : X) (xs : List X) → IsStrictlySortedBy R xs → IsStrictlySortedBy R (insert_key R xs x)
  unfolding IsStrictlySortedBy
  sorted_insert x [] h = (tt, tt)
  sorted_insert x (y ∷ ys) h = by (R x y) refl (sorted_insert x ys h.1)
    where
      by : (r : Ordering) → R x y ≡ r → IsStrictlySortedBy R (insert_key R ys x) → IsStrictlySortedBy R (match_ordering r (x ∷ y ∷ ys) (y ∷ ys) (y ∷ insert_key R ys x))
      by Less is rest = ((is, all_map (λ z. R y z ≡ Less) (λ z. R x z ≡ Less) (λ z less. o.trans x y z is less) ys h.0), h)
      by Equal is rest = h
      by Greater is rest = (all_insert (λ z. R y z ≡ Less) x ys (o.antisymm y x ∙ ap ordering_reverse is) h.0, rest)

  pub distinct_insert : (e : X → X → Bool) (x : X) (xs : List X) → AllByRecursion (λ y. e x y ≡ false) xs → AllByRecursion (λ y. e y x ≡ false) xs → IsDistinct e xs → IsDistinct e (insert_key R xs x)
  unfolding IsDistinct
  distinct_insert e x [] from to h = (tt, tt)
  distinct_insert e x (y ∷ ys) from to h = by (R x y) (distinct_insert e x ys from.1 to.1 h.1)
    where
      by : (r : Ordering) → IsDistinct e (insert_key R ys x) → IsDistinct e (match_ordering r (x ∷ y ∷ ys) (y ∷ ys) (y ∷ insert_key R ys x))
      by Less rest = (from, h)
      by Equal rest = h
      by Greater rest = (all_insert (λ z. e y z ≡ false) x ys to.0 h.0, rest)
