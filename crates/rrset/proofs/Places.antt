-- Lists in key order: where a key stands, where it would go, and what a change there makes.
use Rattle.std.proofs.Common.{◌≡◌, ℕ, zero, suc, ◌+◌, ◌<◌, ◌≤◌, Bool, true, false, cond, not, ◌&&◌, T, List, [], ◌∷◌, length, get_or, set, Some, None, refl, sym, ap, ◌∙◌, arith}
use Rattle.std.specs.Ordering.{is_lt, is_gt, is_eq, ordering_reverse, eq_by_cmp}
use Rattle.std.specs.Cmp.{IsTotalOrder}
use Rattle.std.specs.List.{AllByRecursion, AllWithin, filter, insert, remove, items_where_true}
use Rattle.std.specs.List.Sorted.{IsSortedBy}
use Rattle.std.specs.FinMap.Entries.{by_order, put, find, below_all, is_sorted}
use Rattle.std.specs.declared.cmp.Ordering.{Ordering}
use Rattle.std.specs.declared.cmp.Ordering.TheVariants.{Less, Equal, Greater}
use Rattle.std.proofs.lemmas.Cmp.{alike_right, tied_back}

pub and_left : (a b : Bool) → T (a && b) → T a
and_left true b h = tt
and_left false b h = h

pub and_right : (a b : Bool) → T (a && b) → T b
and_right true b h = h
and_right false b h = absurd h

pub and_both : (a b : Bool) → T a → T b → T (a && b)
and_both true b h k = k
and_both false b h k = h

less : (r : Ordering) → T (is_lt r) → r ≡ Less
less Less h = refl
less Equal h = absurd h
less Greater h = absurd h

at_most-turned : (r : Ordering) → is_gt r ≡ false → is_lt (ordering_reverse r) ≡ false
at_most-turned Less e = refl
at_most-turned Equal e = refl
at_most-turned Greater e = cc

module _ {K X : Type 0} (R : K → K → Ordering) where
  pub below_at : (x : K) (es : List (K × X)) → T (below_all R x es) → (i : ℕ) (d : K × X) → i < length es → R x (get_or es i d).0 ≡ Less
  below_at x [] h i d within = absurd (omega arith)
  below_at x (e ∷ es) h zero d within = less _ (and_left _ _ h)
  below_at x (e ∷ es) h (suc i) d within = below_at x es (and_right _ _ h) i d (omega arith)

  -- each key is less than those of later entries
  pub keys_rise : (es : List (K × X)) → T (is_sorted R es) → (i j : ℕ) (d : K × X) → i < j → j < length es → R (get_or es i d).0 (get_or es j d).0 ≡ Less
  keys_rise [] h i j d before within = absurd (omega arith)
  keys_rise (e ∷ es) h i zero d before within = absurd (omega arith)
  keys_rise (e ∷ es) h zero (suc j) d before within = below_at e.0 es (and_left _ _ h) j d (omega arith)
  keys_rise (e ∷ es) h (suc i) (suc j) d before within = keys_rise es (and_right _ _ h) i j d (omega arith) (omega arith)

  below_chosen : (x : K) (bs : List Bool) (es : List (K × X)) → T (below_all R x es) → T (below_all R x (items_where_true bs es))
  below_chosen x [] es h = tt
  below_chosen x (b ∷ bs) [] h = tt
  below_chosen x (true ∷ bs) (e ∷ es) h = and_both _ _ (and_left _ _ h) (below_chosen x bs es (and_right _ _ h))
  below_chosen x (false ∷ bs) (e ∷ es) h = below_chosen x bs es (and_right _ _ h)

  -- some entries of a list in order are in order
  pub is_sorted-chosen : (bs : List Bool) (es : List (K × X)) → T (is_sorted R es) → T (is_sorted R (items_where_true bs es))
  is_sorted-chosen [] es h = tt
  is_sorted-chosen (b ∷ bs) [] h = tt
  is_sorted-chosen (true ∷ bs) (e ∷ es) h = and_both _ _ (below_chosen e.0 bs es (and_left _ _ h)) (is_sorted-chosen bs es (and_right _ _ h))
  is_sorted-chosen (false ∷ bs) (e ∷ es) h = is_sorted-chosen bs es (and_right _ _ h)

  -- what is known of each key is known of each after a put
  pub all_put : (P : K → Type 0) (k : K) (v : X) (es : List (K × X)) → P k → AllByRecursion (λ e. P e.0) es → AllByRecursion (λ e. P e.0) (put R k v es)
  all_put P k v [] one h = (one, tt)
  all_put P k v (e ∷ es) one h = by (R k e.0) (all_put P k v es one h.1)
    where
      by : (r : Ordering) → AllByRecursion (λ e. P e.0) (put R k v es) → AllByRecursion (λ e. P e.0) (by_order r ((k, v) ∷ e ∷ es) ((e.0, v) ∷ es) (e ∷ put R k v es))
      by Less later = (one, h)
      by Equal later = h
      by Greater later = (h.0, later)

  -- the key stands at an index: what is shown of it, and the list with another value, and without it
  pub record StandsAt (k : K) (es : List (K × X)) (i : ℕ) (d : K × X) : Type 0 where
    pub found : find R k es ≡ Some (get_or es i d).1
    pub puts : (v : X) → put R k v es ≡ set es i ((get_or es i d).0, v)
    pub left : filter (λ e. not (eq_by_cmp R k e.0)) es ≡ remove es i

  -- the key stands nowhere and would go to an index
  pub record GoesTo (k : K) (es : List (K × X)) (i : ℕ) : Type 0 where
    pub none : find R k es ≡ None
    pub puts : (v : X) → put R k v es ≡ insert es i (k, v)
    pub left : filter (λ e. not (eq_by_cmp R k e.0)) es ≡ es

pub all_chosen : {X : Type 0} (P : X → Type 0) (bs : List Bool) (xs : List X) → AllByRecursion P xs → AllByRecursion P (items_where_true bs xs)
all_chosen P [] xs h = tt
all_chosen P (b ∷ bs) [] h = tt
all_chosen P (true ∷ bs) (x ∷ xs) h = (h.0, all_chosen P bs xs h.1)
all_chosen P (false ∷ bs) (x ∷ xs) h = all_chosen P bs xs h.1

pub all_filter : {X : Type 0} (P : X → Type 0) (test : X → Bool) (xs : List X) → AllByRecursion P xs → AllByRecursion P (filter test xs)
all_filter P test [] h = tt
all_filter P test (x ∷ xs) h = by (test x) (all_filter P test xs h.1)
  where
    by : (b : Bool) → AllByRecursion P (filter test xs) → AllByRecursion P (cond b (x ∷ filter test xs) (filter test xs))
    by true rest = (h.0, rest)
    by false rest = rest

module _ {K X : Type 0} {R : K → K → Ordering} (o : IsTotalOrder R) where
  -- each entry is no greater than the next one, by a key of its own that rises with the keys
  pub sorted_by : {Y : Type 0} (S : Y → Y → Ordering) → IsTotalOrder S → (own : K × X → Y) → ((a b : K × X) → R a.0 b.0 ≡ Less → is_gt (S (own a) (own b)) ≡ false)
      → (es : List (K × X)) → T (is_sorted R es) → IsSortedBy (λ a b. is_lt (S (own a) (own b))) es
  sorted_by S total own rises es h k d from within =
      ap is_lt (total.antisymm (own (get_or es (k + 1) d)) (own (get_or es k d)))
      ∙ at_most-turned _ (rises (get_or es k d) (get_or es (k + 1) d) (keys_rise R es h k (k + 1) d (omega arith) within))

  -- a key that is less than all keys stands nowhere
  above_kept : (k : K) (es : List (K × X)) (x : K) → R x k ≡ Equal → T (below_all R x es) → filter (λ e. not (eq_by_cmp R k e.0)) es ≡ es
  above_kept k [] x same h = refl
  above_kept k (e ∷ es) x same h =
      let before : R k e.0 ≡ Less = sym (o.congr x k e.0 same) ∙ less _ (and_left _ _ h) in
      let kept = filter (λ e. not (eq_by_cmp R k e.0)) es in
      ap (λ r. cond (not (is_eq r)) (e ∷ kept) kept) before ∙ ap (λ l. e ∷ l) (above_kept k es x same (and_right _ _ h))

  pub stands_at : (k : K) (es : List (K × X)) → T (is_sorted R es) → (i : ℕ) (d : K × X) → i < length es → R (get_or es i d).0 k ≡ Equal → StandsAt R k es i d
  stands_at k [] h i d within same = absurd (omega arith)
  stands_at k (e ∷ es) h zero d within same =
      let here : R k e.0 ≡ Equal = tied_back o e.0 k same in
      let kept = filter (λ e. not (eq_by_cmp R k e.0)) es in
      record {
        found = ap (λ r. cond (is_eq r) (Some e.1) (find R k es)) here;
        puts = λ v. ap (λ r. by_order r ((k, v) ∷ e ∷ es) ((e.0, v) ∷ es) (e ∷ put R k v es)) here;
        left = ap (λ r. cond (not (is_eq r)) (e ∷ kept) kept) here ∙ above_kept k es e.0 same (and_left _ _ h);
      }
  stands_at k (e ∷ es) h (suc i) d within same =
      let in_rest : i < length es = omega arith in
      let later = stands_at k es (and_right _ _ h) i d in_rest same in
      let before : R e.0 k ≡ Less = sym (alike_right o (get_or es i d).0 k e.0 same) ∙ below_at R e.0 es (and_left _ _ h) i d in_rest in
      let behind : R k e.0 ≡ Greater = o.antisymm k e.0 ∙ ap ordering_reverse before in
      let kept = filter (λ e. not (eq_by_cmp R k e.0)) es in
      record {
        found = ap (λ r. cond (is_eq r) (Some e.1) (find R k es)) behind ∙ later.found;
        puts = λ v. ap (λ r. by_order r ((k, v) ∷ e ∷ es) ((e.0, v) ∷ es) (e ∷ put R k v es)) behind ∙ ap (λ l. e ∷ l) (later.puts v);
        left = ap (λ r. cond (not (is_eq r)) (e ∷ kept) kept) behind ∙ ap (λ l. e ∷ l) later.left;
      }

  pub goes_to : (k : K) (es : List (K × X)) (i : ℕ) → i ≤ length es → AllWithin (λ e. R e.0 k ≡ Less) es 0 i → AllWithin (λ e. R e.0 k ≡ Greater) es i (length es) → GoesTo R k es i
  goes_to k [] zero within front back = record { none = refl; puts = λ v. refl; left = refl }
  goes_to k [] (suc i) within front back = absurd (omega arith)
  goes_to k (e ∷ es) zero within front back =
      let later = goes_to k es zero (omega arith) (λ j d low high. absurd (omega arith)) (λ j d low high. back (suc j) d (omega arith) (omega arith)) in
      let before : R k e.0 ≡ Less = o.antisymm k e.0 ∙ ap ordering_reverse (back zero e (omega arith) (omega arith)) in
      let kept = filter (λ e. not (eq_by_cmp R k e.0)) es in
      record {
        none = ap (λ r. cond (is_eq r) (Some e.1) (find R k es)) before ∙ later.none;
        puts = λ v. ap (λ r. by_order r ((k, v) ∷ e ∷ es) ((e.0, v) ∷ es) (e ∷ put R k v es)) before;
        left = ap (λ r. cond (not (is_eq r)) (e ∷ kept) kept) before ∙ ap (λ l. e ∷ l) later.left;
      }
  goes_to k (e ∷ es) (suc i) within front back =
      let later = goes_to k es i (omega arith) (λ j d low high. front (suc j) d (omega arith) (omega arith)) (λ j d low high. back (suc j) d (omega arith) (omega arith)) in
      let behind : R k e.0 ≡ Greater = o.antisymm k e.0 ∙ ap ordering_reverse (front zero e (omega arith) (omega arith)) in
      let kept = filter (λ e. not (eq_by_cmp R k e.0)) es in
      record {
        none = ap (λ r. cond (is_eq r) (Some e.1) (find R k es)) behind ∙ later.none;
        puts = λ v. ap (λ r. by_order r ((k, v) ∷ e ∷ es) ((e.0, v) ∷ es) (e ∷ put R k v es)) behind ∙ ap (λ l. e ∷ l) (later.puts v);
        left = ap (λ r. cond (not (is_eq r)) (e ∷ kept) kept) behind ∙ ap (λ l. e ∷ l) later.left;
      }
