-- Deadlines by their keys: each key once, in the order in which they fall due.
use Rattle.std.proofs.Common.{◌≡◌, ℕ, zero, suc, ◌+◌, ◌<◌, ◌≤◌, Bool, true, false, cond, not, List, [], ◌∷◌, length, get_or, drop, Option, Some, None, is_some, Result, Ok, Err, Bor, refl, sym, ap, subst, ◌∙◌, arith}
use Rattle.std.specs.Prelude.{nat_le, slice_get}
use Rattle.std.specs.Result.{IfOk, IfErr, OnErr, IsOk}
use Rattle.std.specs.Prelude.{IsTrue}
use Rattle.std.specs.Option.{option_map}
use Rattle.std.specs.Fn.{ComputesKey}
use denote.Param.Members.{Mut, Called}
use Rattle.std.specs.Ordering.{is_eq, match_ordering, nat_cmp, eq_by_cmp, ordering_then}
use Rattle.std.specs.Cmp.{IsTotalOrder}
use Rattle.std.specs.List.{AllByRecursion, AllWithin, IsDistinct, find, insert, remove}
use Rattle.std.specs.List.Sorted.{IsStrictlySortedBy, IsSearchInRange, IsBinarySearchResult}
use Rattle.std.specs.BTreeSet.{insert_key}
use Rattle.std.specs.declared.cmp.Ordering.{Ordering}
use Rattle.std.specs.declared.cmp.Ordering.TheVariants.{Less, Equal, Greater}
use Rattle.std.proofs.lemmas.Cmp.{ranked}
use Rattle.std.proofs.lemmas.Bool.{lt-leb, le-leb, leb-false}
use Rattle.std.proofs.lemmas.Fn.{always_returns_same}
use Rattle.std.proofs.lemmas.Cmp.{then_total, on_total, nat_cmp_total, eq_by_cmp_equiv}
use Rattle.std.proofs.lemmas.List.Kept.{IsStrictlySortedBy-filter}
use Rattle.clockqueue.specs.Deadlines.{Deadlines, AreDeadlines, due_cmp, is_of, is_set_to, moment_of, without, with_deadline, due}
use Rattle.clockqueue.specs.Places.{IsAt, IsGapFor}
use Rattle.clockqueue.proofs.Ordered.{all_at, all_map, distinct_filter, none_left_out, none_found, not_found, taken_out, searchable, put_at, sorted_insert, distinct_insert}

less_not_equal : (r : Ordering) → r ≡ Less → is_eq r ≡ false
less_not_equal r e = ap is_eq e

second_equal : (a b : Ordering) → ordering_then a b ≡ Equal → b ≡ Equal
second_equal Less b e = cc
second_equal Equal b e = e
second_equal Greater b e = cc

-- from the clause `position` of a search, where each call gives ord of the element
pub position-from_clause : {X F : Type 0} {g : Mut F (Bor X × Unit {0}) Ordering} {f : F} (ord : X → Ordering) (xs : List X) (r : Result ℕ ℕ)
    → ((ord : X → Ordering) → ComputesKey g ord f → IsBinarySearchResult ord xs r)
    → ((a : Bor X × Unit {0}) (b : Ordering) (f' : F) → Called g f a b f' → (b ≡ ord a.0.now) × (f' ≡ f)) → IsBinarySearchResult ord xs r
position-from_clause {g = g} {f = f} ord xs r clause h = clause ord (always_returns_same g (λ a b. b ≡ ord a.0.now) f h)

-- a deadline that is due by a moment
abbrev pub if_due : {K : Type 0} → ℕ → Option (ℕ × K) → Option (ℕ × K)
if_due moment None = None
if_due moment (Some d) = cond (nat_le d.0 moment) (Some d) None

module _ {K : Type 0} {cmp : K → K → Ordering} (o : IsTotalOrder cmp) where
  pub due_cmp_total : IsTotalOrder (due_cmp cmp)
  due_cmp_total = then_total (on_total (λ (d : ℕ × K). d.0) nat_cmp_total) (on_total (λ (d : ℕ × K). d.1) o)

  one_key : (key : K) (d e : ℕ × K) → is_of cmp key d ≡ true → is_of cmp key e ≡ true → is_of cmp e.1 d ≡ true
  one_key key d e first second =
      let equal = eq_by_cmp_equiv o in
      equal.congr d.1 key e.1 first ∙ equal.symm key e.1 ∙ second

  same_key_of : (d : ℕ × K) (moment : ℕ) (key : K) → due_cmp cmp d (moment, key) ≡ Equal → is_of cmp key d ≡ true
  same_key_of d moment key e = ap is_eq (second_equal (nat_cmp d.0 moment) (cmp d.1 key) e)

  due_key : (d : ℕ × K) (moment : ℕ) (key : K) → is_set_to cmp key moment d ≡ true → is_of cmp key d ≡ true
  due_key d moment key e = by (due_cmp cmp d (moment, key)) refl e
    where
      by : (r : Ordering) → due_cmp cmp d (moment, key) ≡ r → is_eq r ≡ true → is_of cmp key d ≡ true
      by Less is e = absurd cc
      by Equal is e = same_key_of d moment key is
      by Greater is e = absurd cc

  -- ---- a search

  pub search_found : (moment : ℕ) (key : K) (ds : Deadlines K) (r : Result ℕ ℕ) → IsSearchInRange r (length ds) → IsBinarySearchResult (λ d. due_cmp cmp d (moment, key)) ds r → IfOk r (IsAt cmp moment key ds)
  search_found moment key ds (Ok index) within is = record { within = within; equal = is }
  search_found moment key ds (Err index) within is = tt

  pub search_absent : (moment : ℕ) (key : K) (ds : Deadlines K) (r : Result ℕ ℕ) → AreDeadlines cmp ds → IsSearchInRange r (length ds) → IsBinarySearchResult (λ d. due_cmp cmp d (moment, key)) ds r → IfErr r (IsGapFor cmp moment key ds)
  search_absent moment key ds (Ok index) are within is = tt
  search_absent moment key ds (Err index) are within is = record { within = within; between = is (searchable due_cmp_total ds (moment, key) are.order) }

  -- ---- the deadlines after a change

  pub left : (key : K) (ds : Deadlines K) → AreDeadlines cmp ds → AreDeadlines cmp (without cmp key ds)
  left key ds are = record {
    order = IsStrictlySortedBy-filter (due_cmp cmp) (λ d. not (is_of cmp key d)) ds are.order;
    keys = distinct_filter (λ d e. is_of cmp e.1 d) (λ d. not (is_of cmp key d)) ds are.keys;
  }

  pub absent : (key : K) (ds : Deadlines K) → moment_of cmp key ds ≡ None → AllByRecursion (λ d. is_of cmp key d ≡ false) ds
  absent key ds h = not_found (λ d e. is_of cmp e.1 d) (is_of cmp key) ds (by (find (is_of cmp key) ds) h)
    where
      by : (found : Option (ℕ × K)) → option_map (λ d. d.0) found ≡ None → found ≡ None
      by None e = refl
      by (Some d) e = absurd cc

  pub without_absent : (key : K) (ds : Deadlines K) → moment_of cmp key ds ≡ None → without cmp key ds ≡ ds
  without_absent key ds h = none_left_out (λ d e. is_of cmp e.1 d) (is_of cmp key) ds (absent key ds h)

  pub without_fails : (key : K) (ds : Deadlines K) → AllByRecursion (λ d. is_of cmp key d ≡ false) (without cmp key ds)
  without_fails key [] = tt
  without_fails key (d ∷ ds) = by (is_of cmp key d) refl (without_fails key ds)
    where
      by : (b : Bool) → is_of cmp key d ≡ b → AllByRecursion (λ d. is_of cmp key d ≡ false) (without cmp key ds) → AllByRecursion (λ d. is_of cmp key d ≡ false) (cond (not b) (d ∷ without cmp key ds) (without cmp key ds))
      by true is rest = rest
      by false is rest = (is, rest)

  pub gone : (key : K) (ds : Deadlines K) → moment_of cmp key (without cmp key ds) ≡ None
  gone key ds = ap (option_map (λ d. d.0)) (none_found (λ d e. is_of cmp e.1 d) (is_of cmp key) (without cmp key ds) (without_fails key ds))

  pub without_twice : (key : K) (moment : ℕ) (ds : Deadlines K) → with_deadline cmp key moment (without cmp key ds) ≡ with_deadline cmp key moment ds
  without_twice key moment ds = ap (λ l. insert_key (due_cmp cmp) l (moment, key)) (without_absent key (without cmp key ds) (gone key ds))

  -- a new key has gone to its place
  pub record Adds (key : K) (moment : ℕ) (ds later : Deadlines K) : Type 0 where
    pub are : AreDeadlines cmp later
    pub is : later ≡ with_deadline cmp key moment ds

  pub added : (key : K) (moment : ℕ) (ds later : Deadlines K) (index : ℕ) → AreDeadlines cmp ds → moment_of cmp key ds ≡ None → IsGapFor cmp moment key ds index → later ≡ insert ds index (moment, key) → Adds key moment ds later
  added key moment ds later index are none gap e =
      let put : later ≡ insert_key (due_cmp cmp) ds (moment, key) = e ∙ put_at due_cmp_total (moment, key) ds index gap.within gap.between.0 gap.between.1 in
      let equal = eq_by_cmp_equiv o in
      let to = absent key ds none in
      record {
        are = subst (AreDeadlines cmp) (sym put) (record {
          order = sorted_insert due_cmp_total (moment, key) ds are.order;
          keys = distinct_insert due_cmp_total (λ d e. is_of cmp e.1 d) (moment, key) ds (all_map (λ d. is_of cmp key d ≡ false) (λ d. is_of cmp d.1 (moment, key) ≡ false) (λ d apart. equal.symm key d.1 ∙ apart) ds to) to are.keys;
        });
        is = put ∙ ap (λ l. insert_key (due_cmp cmp) l (moment, key)) (sym (without_absent key ds none));
      }

  pub not_there : (key : K) (moment : ℕ) (ds : Deadlines K) (index : ℕ) → AreDeadlines cmp ds → moment_of cmp key ds ≡ None → IsAt cmp moment key ds index → ⊥
  not_there key moment [] index are none at = omega (arith, at.within)
  not_there key moment (d ∷ ds) index are none at =
      let there = same_key_of (get_or (d ∷ ds) index d) moment key (at.equal d) in
      let apart = all_at (λ d. is_of cmp key d ≡ false) (d ∷ ds) (absent key (d ∷ ds) none) index d at.within in
      absurd cc

  -- a key is taken out
  pub record Takes (key : K) (ds : Deadlines K) (index : ℕ) (d : ℕ × K) (later : Deadlines K) : Type 0 where
    pub are : AreDeadlines cmp later
    pub is : later ≡ without cmp key ds
    pub found : find (is_of cmp key) ds ≡ Some (get_or ds index d)

  pub taken : (key : K) (ds later : Deadlines K) (index : ℕ) (d : ℕ × K) → AreDeadlines cmp ds → index < length ds → is_of cmp key (get_or ds index d) ≡ true → later ≡ remove ds index → Takes key ds index d later
  taken key ds later index d are within is e =
      let out = taken_out (λ d e. is_of cmp e.1 d) (is_of cmp key) (one_key key) ds are.keys index d within is in
      let later-is : later ≡ without cmp key ds = e ∙ out.left in
      record { are = subst (AreDeadlines cmp) (sym later-is) (left key ds are); is = later-is; found = out.found }

  pub found_due : (key : K) (moment : ℕ) (ds : Deadlines K) (index : ℕ) (d : ℕ × K) → AreDeadlines cmp ds → IsAt cmp moment key ds index → find (is_set_to cmp key moment) ds ≡ Some (get_or ds index d)
  found_due key moment ds index d are at =
      (taken_out (λ d e. is_of cmp e.1 d) (is_set_to cmp key moment) (λ d e first second. one_key key d e (due_key d moment key first) (due_key e moment key second)) ds are.keys index d at.within (ap is_eq (at.equal d))).found

  pub taken_at : (key : K) (moment : ℕ) (ds later : Deadlines K) (index : ℕ) (d : ℕ × K) → AreDeadlines cmp ds → IsAt cmp moment key ds index → later ≡ remove ds index → Takes key ds index d later
  taken_at key moment ds later index d are at e = taken key ds later index d are at.within (same_key_of (get_or ds index d) moment key (at.equal d)) e

  none_within : (key : K) (moment : ℕ) (ds : Deadlines K) (index : ℕ) → index ≤ length ds → AllWithin (λ d. due_cmp cmp d (moment, key) ≡ Less) ds 0 index → AllWithin (λ d. due_cmp cmp d (moment, key) ≡ Greater) ds index (length ds)
      → AllByRecursion (λ d. is_set_to cmp key moment d ≡ false) ds
  none_within key moment [] index within front back = tt
  none_within key moment (d ∷ ds) zero within front back = (
    ap is_eq (back zero d (omega arith) (omega arith)),
    none_within key moment ds zero (omega arith) (λ j e low high. absurd (omega arith)) (λ j e low high. back (suc j) e (omega arith) (omega arith)),
  )
  none_within key moment (d ∷ ds) (suc index) within front back = (
    ap is_eq (front zero d (omega arith) (omega arith)),
    none_within key moment ds index (omega arith) (λ j e low high. front (suc j) e (omega arith) (omega arith)) (λ j e low high. back (suc j) e (omega arith) (omega arith)),
  )

  pub none_due : (key : K) (moment : ℕ) (ds : Deadlines K) (index : ℕ) → IsGapFor cmp moment key ds index → find (is_set_to cmp key moment) ds ≡ None
  none_due key moment ds index gap = none_found (λ d e. is_of cmp e.1 d) (is_set_to cmp key moment) ds (none_within key moment ds index gap.within gap.between.0 gap.between.1)

  -- ---- what is due

  not_before : (d e : ℕ × K) → due_cmp cmp d e ≡ Less → d.0 ≤ e.0
  not_before d e less = by (nat_cmp d.0 e.0) refl less
    where
      by : (r : Ordering) → nat_cmp d.0 e.0 ≡ r → ordering_then r (cmp d.1 e.1) ≡ Less → d.0 ≤ e.0
      by Less is l = omega (arith, ranked d.0 e.0 Less (sym is))
      by Equal is l = omega (arith, ranked d.0 e.0 Equal (sym is))
      by Greater is l = absurd cc

  none_before : (moment : ℕ) (d : ℕ × K) (ds : Deadlines K) → AllByRecursion (λ e. due_cmp cmp d e ≡ Less) ds → nat_le d.0 moment ≡ false → due moment ds ≡ []
  none_before moment d [] h late = refl
  none_before moment d (e ∷ es) h late =
      let later : nat_le e.0 moment ≡ false = lt-leb e.0 moment (omega (arith, leb-false d.0 moment late, not_before d e h.0)) in
      ap (λ (b : Bool). cond b (e ∷ due moment es) (due moment es)) later ∙ none_before moment d es h.1 late

  -- the deadlines that are due stand in front
  pub due_at : (moment : ℕ) (ds : Deadlines K) → IsStrictlySortedBy (due_cmp cmp) ds → (n : ℕ) → slice_get (due moment ds) n ≡ if_due moment (slice_get ds n)
  unfolding IsStrictlySortedBy
  due_at moment [] h zero = refl
  due_at moment [] h (suc n) = refl
  due_at moment (d ∷ ds) h zero = by (nat_le d.0 moment) refl
    where
      by : (b : Bool) → nat_le d.0 moment ≡ b → slice_get (cond b (d ∷ due moment ds) (due moment ds)) zero ≡ cond b (Some d) None
      by true is = refl
      by false is = ap (λ l. slice_get l zero) (none_before moment d ds h.0 is)
  due_at moment (d ∷ ds) h (suc n) = by (nat_le d.0 moment) refl (due_at moment ds h.1 n)
    where
      by : (b : Bool) → nat_le d.0 moment ≡ b → slice_get (due moment ds) n ≡ if_due moment (slice_get ds n) → slice_get (cond b (d ∷ due moment ds) (due moment ds)) (suc n) ≡ if_due moment (slice_get ds n)
      by true is rest = rest
      by false is rest = let none = none_before moment d ds h.0 is in ap (λ l. slice_get l (suc n)) none ∙ sym (ap (λ l. slice_get l n) none) ∙ rest

  pub none_first : (ds : Deadlines K) → slice_get ds 0 ≡ None → ds ≡ []
  none_first [] h = refl
  none_first (d ∷ ds) h = absurd cc

  pub behind_first : (ds : Deadlines K) → AreDeadlines cmp ds → AreDeadlines cmp (drop 1 ds)
  unfolding IsStrictlySortedBy IsDistinct
  behind_first [] are = are
  behind_first (d ∷ ds) are = record { order = are.order.1; keys = are.keys.1 }

  pub first-before : (d : ℕ × K) (ds : Deadlines K) → AreDeadlines cmp (d ∷ ds) → AllByRecursion (λ e. due_cmp cmp d e ≡ Less) ds
  unfolding IsStrictlySortedBy
  first-before d ds are = are.order.0

  pub without-first : (d : ℕ × K) (ds : Deadlines K) → AreDeadlines cmp (d ∷ ds) → without cmp d.1 (d ∷ ds) ≡ ds
  without-first d ds are =
      let equal = eq_by_cmp_equiv o in
      sym (taken_out (λ d e. is_of cmp e.1 d) (is_of cmp d.1) (one_key d.1) (d ∷ ds) are.keys zero d (omega arith) (equal.refl d.1)).left

  pub no_deadlines : AreDeadlines cmp []
  unfolding IsStrictlySortedBy IsDistinct
  no_deadlines = record { order = tt; keys = tt }

  -- where there was no room for the key, it wasn't there, and nothing has changed
  pub kept_back : {E : Type 0} (key : K) (ds between later : Deadlines K) (there : Bool) (spare room : ℕ) (r : Result Unit E) → there ≡ is_some (moment_of cmp key ds) → between ≡ without cmp key ds
      → (IsTrue there → spare + 1 ≤ room) → (1 ≤ room → IsOk r) → OnErr r (later ≡ between) → OnErr r (later ≡ ds)
  kept_back key ds between later there spare room (Ok u) there-is between-is more some same = tt
  kept_back key ds between later true spare room (Err e) there-is between-is more some same = let sure = some (omega (arith, more refl)) in absurd cc
  kept_back key ds between later false spare room (Err e) there-is between-is more some same = same ∙ between-is ∙ without_absent key ds (none_from (moment_of cmp key ds) (sym there-is))
    where
      none_from : (o : Option ℕ) → is_some o ≡ false → o ≡ None
      none_from None e = refl
      none_from (Some x) e = absurd cc

  -- ---- the deadline with a number, and whether it is due

  pub not_due : (moment n : ℕ) (ds : Deadlines K) (d : ℕ × K) → AreDeadlines cmp ds → slice_get ds n ≡ Some d → moment < d.0 → slice_get (due moment ds) n ≡ None
  not_due moment n ds d are at late = due_at moment ds are.order n ∙ ap (if_due moment) at ∙ ap (λ (b : Bool). cond b (Some d) None) (lt-leb d.0 moment late)

  pub is_due_at : (moment n : ℕ) (ds : Deadlines K) (d : ℕ × K) → AreDeadlines cmp ds → slice_get ds n ≡ Some d → d.0 ≤ moment → slice_get (due moment ds) n ≡ Some d
  is_due_at moment n ds d are at soon = due_at moment ds are.order n ∙ ap (if_due moment) at ∙ ap (λ (b : Bool). cond b (Some d) None) (le-leb d.0 moment soon)

  pub none_at : (moment n : ℕ) (ds : Deadlines K) → AreDeadlines cmp ds → slice_get ds n ≡ None → slice_get (due moment ds) n ≡ None
  none_at moment n ds are none = due_at moment ds are.order n ∙ ap (if_due moment) none

pub slice_get-here : {X : Type 0} (xs : List X) (n : ℕ) (x : X) → n < length xs → x ≡ get_or xs n x → slice_get xs n ≡ Some x
slice_get-here [] n x within is = absurd (omega arith)
slice_get-here (y ∷ ys) zero x within is = ap Some (sym is)
slice_get-here (y ∷ ys) (suc n) x within is = slice_get-here ys n x (omega arith) is

-- ---- the map that deadlines are

module _ {K : Type 0} {cmp : K → K → Ordering} (o : IsTotalOrder cmp) where
  tied_alike : (q key : K) (d : ℕ × K) → eq_by_cmp cmp key q ≡ true → is_of cmp q d ≡ is_of cmp key d
  tied_alike q key d e =
      let equal = eq_by_cmp_equiv o in
      equal.symm d.1 q ∙ sym (equal.congr key q d.1 e) ∙ equal.symm key d.1

  -- a deadline of one key is none of another
  tied_apart : (q key : K) (d : ℕ × K) → eq_by_cmp cmp key q ≡ false → is_of cmp key d ≡ true → is_of cmp q d ≡ false
  tied_apart q key d other e =
      let equal = eq_by_cmp_equiv o in
      equal.congr d.1 key q e ∙ other

  found_without : (q key : K) (ds : Deadlines K) → eq_by_cmp cmp key q ≡ false → find (is_of cmp q) (without cmp key ds) ≡ find (is_of cmp q) ds
  found_without q key [] other = refl
  found_without q key (d ∷ ds) other = by (is_of cmp key d) refl (found_without q key ds other)
    where
      by : (b : Bool) → is_of cmp key d ≡ b → find (is_of cmp q) (without cmp key ds) ≡ find (is_of cmp q) ds
          → find (is_of cmp q) (cond (not b) (d ∷ without cmp key ds) (without cmp key ds)) ≡ cond (is_of cmp q d) (Some d) (find (is_of cmp q) ds)
      by true is rest = rest ∙ sym (ap (λ (b : Bool). cond b (Some d) (find (is_of cmp q) ds)) (tied_apart q key d other is))
      by false is rest = ap (λ (found : Option (ℕ × K)). cond (is_of cmp q d) (Some d) found) rest

  pub moment-without : (q key : K) (ds : Deadlines K) → moment_of cmp q (without cmp key ds) ≡ cond (eq_by_cmp cmp key q) None (moment_of cmp q ds)
  moment-without q key ds = by (eq_by_cmp cmp key q) refl
    where
      alike : eq_by_cmp cmp key q ≡ true → (ds : Deadlines K) → find (is_of cmp q) ds ≡ find (is_of cmp key) ds
      alike e [] = refl
      alike e (d ∷ ds) = (λ i. cond (tied_alike q key d e i) (Some d) (alike e ds i))

      by : (b : Bool) → eq_by_cmp cmp key q ≡ b → moment_of cmp q (without cmp key ds) ≡ cond b None (moment_of cmp q ds)
      by true e = ap (option_map (λ d. d.0)) (alike e (without cmp key ds)) ∙ gone o key ds
      by false e = ap (option_map (λ d. d.0)) (found_without q key ds e)

  found_insert : (q : K) (x : ℕ × K) (ds : Deadlines K) → AllByRecursion (λ d. is_of cmp x.1 d ≡ false) ds → find (is_of cmp q) (insert_key (due_cmp cmp) ds x) ≡ cond (is_of cmp q x) (Some x) (find (is_of cmp q) ds)
  found_insert q x [] apart = refl
  found_insert q x (d ∷ ds) apart = by (due_cmp cmp x d) refl (found_insert q x ds apart.1)
    where
      turned : (is_of cmp q x ≡ true) → is_of cmp q d ≡ false
      turned e =
          let equal = eq_by_cmp_equiv o in
          equal.symm d.1 q ∙ sym (equal.congr x.1 q d.1 e) ∙ equal.symm x.1 d.1 ∙ apart.0

      swapped : (a b : Bool) (rest : Option (ℕ × K)) → is_of cmp q x ≡ a → is_of cmp q d ≡ b → cond b (Some d) (cond a (Some x) rest) ≡ cond a (Some x) (cond b (Some d) rest)
      swapped true true rest e g = let no_ = turned e in absurd cc
      swapped true false rest e g = refl
      swapped false b rest e g = refl

      by : (r : Ordering) → due_cmp cmp x d ≡ r → find (is_of cmp q) (insert_key (due_cmp cmp) ds x) ≡ cond (is_of cmp q x) (Some x) (find (is_of cmp q) ds)
          → find (is_of cmp q) (match_ordering r (x ∷ d ∷ ds) (d ∷ ds) (d ∷ insert_key (due_cmp cmp) ds x)) ≡ cond (is_of cmp q x) (Some x) (cond (is_of cmp q d) (Some d) (find (is_of cmp q) ds))
      by Less e rest = refl
      by Equal e rest =
          let same : eq_by_cmp cmp x.1 d.1 ≡ true = ap is_eq (second_equal (nat_cmp x.0 d.0) (cmp x.1 d.1) e) in
          let equal = eq_by_cmp_equiv o in
          let there : is_of cmp x.1 d ≡ true = equal.symm d.1 x.1 ∙ same in
          let not_there = apart.0 in
          absurd cc
      by Greater e rest = ap (λ (found : Option (ℕ × K)). cond (is_of cmp q d) (Some d) found) rest ∙ swapped (is_of cmp q x) (is_of cmp q d) (find (is_of cmp q) ds) refl refl

  pub moment-with : (q key : K) (moment : ℕ) (ds : Deadlines K) → moment_of cmp q (with_deadline cmp key moment ds) ≡ cond (eq_by_cmp cmp key q) (Some moment) (moment_of cmp q ds)
  moment-with q key moment ds = ap (option_map (λ d. d.0)) (found_insert q (moment, key) (without cmp key ds) (without_fails o key ds)) ∙ by (eq_by_cmp cmp key q) refl
    where
      by : (b : Bool) → eq_by_cmp cmp key q ≡ b → option_map (λ (d : ℕ × K). d.0) (cond b (Some (moment, key)) (find (is_of cmp q) (without cmp key ds))) ≡ cond b (Some moment) (moment_of cmp q ds)
      by true e = refl
      by false e = ap (option_map (λ d. d.0)) (found_without q key ds e)
