-- Lists in the order of their keys, by the entries that are found in them. Keys that tie need not be equal.
--     entry_of q es      the first entry whose key ties with q
--     same_found      two lists in order are one where the same is found in both
--     added, all_added, left_by      a key comes where none ties with it; several; those stay that tie with one of these
--     is_among q ks      a key ties with one of these
--     AreAlike before these those      keys of two lists that tie are equal, where they tie with none before
--     new_of      what is found of keys that come
--     entry_all, entry_left, sorted_all, sorted_left      what is found behind these; the order stays
use Rattle.std.proofs.Common.{◌≡◌, Bool, true, false, cond, ◌||◌, T, List, [], ◌∷◌, Option, Some, None, is_some, refl, sym, ap, subst, ◌∙◌}
use Rattle.std.specs.Prelude.{filter, fold}
use Rattle.std.specs.List.{AllByRecursion, list_any}
use Rattle.std.specs.Option.{option_or}
use Rattle.std.specs.Ordering.{is_lt, is_eq, ordering_reverse, eq_by_cmp}
use Rattle.std.specs.Cmp.{IsTotalOrder}
use Rattle.std.specs.FinMap.Entries.{by_order, below_all, find, find_tied, is_sorted, is_sorted-put, is_sorted-where_key, put}
use Rattle.std.specs.declared.cmp.Ordering.{Ordering}
use Rattle.std.specs.declared.cmp.Ordering.TheVariants.{Less, Equal, Greater}
use Rattle.std.proofs.lemmas.Cmp.{eq_by_cmp_equiv, tied_itself}
use Rattle.std.proofs.lemmas.Map.Steps.{list_any_congr}
use Rattle.rrset.proofs.Places.{and_both, and_left, and_right}
use Rattle.rrset.proofs.Sets.{is_eq-Equal}

-- ---- answers

less : (r : Ordering) → T (is_lt r) → r ≡ Less
less Less h = refl
less Equal h = absurd h
less Greater h = absurd h

module _ {A : Type 0} where
  same_Some : (x y : A) → Some x ≡ Some y → x ≡ y
  same_Some x y e = cc

  not_None : (x : A) → Some x ≡ None → ⊥
  not_None x e = cc

  is_None : (o : Option A) → is_some o ≡ false → o ≡ None
  is_None None h = refl
  is_None (Some x) h = absurd cc

  or_none : (a : Option A) → option_or a None ≡ a
  or_none None = refl
  or_none (Some x) = refl

  or_some : (a b : Option A) → is_some a ≡ true → option_or a b ≡ a
  or_some None b h = absurd cc
  or_some (Some x) b h = refl

  or_next : (a : Option A) (t : Bool) (y : A) (c : Option A) → option_or (option_or a (cond t (Some y) None)) c ≡ option_or a (cond t (Some y) c)
  or_next None true y c = refl
  or_next None false y c = refl
  or_next (Some x) t y c = refl

  nothing : (t : Bool) → cond {A = Option A} t None None ≡ None
  nothing true = refl
  nothing false = refl

module _ {K : Type 0} (R : K → K → Ordering) where
  abbrev pub is_among : K → List K → Bool
  is_among q ks = list_any (eq_by_cmp R q) ks

  abbrev pub AreAlike : List K → List K → List K → Type 0
  AreAlike before these those = AllByRecursion (λ k. AllByRecursion (λ l. is_among l before ≡ false → eq_by_cmp R k l ≡ true → k ≡ l) those) these

module _ {K X : Type 0} (R : K → K → Ordering) where
  abbrev pub entry_of : K → List (K × X) → Option (K × X)
  entry_of q [] = None
  entry_of q (e ∷ es) = cond (eq_by_cmp R q e.0) (Some e) (entry_of q es)

  abbrev pub added : X → K → List (K × X) → List (K × X)
  added x k es = cond (is_some (find R k es)) es (put R k x es)

  abbrev pub all_added : X → List K → List (K × X) → List (K × X)
  all_added x ks es = fold (λ w k. added x k w) es ks

  abbrev pub left_by : List K → List (K × X) → List (K × X)
  left_by ks es = filter (λ e. is_among R e.0 ks) es

  abbrev pub new_of : X → K → List K → Option (K × X)
  new_of x q [] = None
  new_of x q (k ∷ ks) = cond (eq_by_cmp R q k) (Some (k, x)) (new_of x q ks)

  pub is_some-entry : (q : K) (es : List (K × X)) → is_some (entry_of q es) ≡ is_some (find R q es)
  is_some-entry q [] = refl
  is_some-entry q (e ∷ es) = by (eq_by_cmp R q e.0) (is_some-entry q es)
    where
      by : (b : Bool) → is_some (entry_of q es) ≡ is_some (find R q es) → is_some (cond b (Some e) (entry_of q es)) ≡ is_some (cond b (Some e.1) (find R q es))
      by true rest = refl
      by false rest = rest

  pub is_some-new : (x : X) (q : K) (ks : List K) → is_some (new_of x q ks) ≡ is_among R q ks
  is_some-new x q [] = refl
  is_some-new x q (k ∷ ks) = by (eq_by_cmp R q k) (is_some-new x q ks)
    where
      by : (b : Bool) → is_some (new_of x q ks) ≡ is_among R q ks → is_some (cond b (Some (k, x)) (new_of x q ks)) ≡ (b || is_among R q ks)
      by true rest = refl
      by false rest = rest

  pub none-new : (x : X) (q : K) (ks : List K) → is_among R q ks ≡ false → new_of x q ks ≡ None
  none-new x q ks none = is_None (new_of x q ks) (is_some-new x q ks ∙ none)

  module _ (o : IsTotalOrder R) where
    below-less : (x y : K) (es : List (K × X)) → R x y ≡ Less → T (below_all R y es) → T (below_all R x es)
    below-less x y [] before h = tt
    below-less x y (e ∷ es) before h = and_both _ _ (subst (λ r. T (is_lt r)) (sym (o.trans x y e.0 before (less _ (and_left _ _ h)))) tt) (below-less x y es before (and_right _ _ h))

    below-tied : (x y : K) (es : List (K × X)) → R x y ≡ Equal → T (below_all R y es) → T (below_all R x es)
    below-tied x y [] same h = tt
    below-tied x y (e ∷ es) same h = and_both _ _ (subst (λ r. T (is_lt r)) (sym (o.congr x y e.0 same)) (and_left _ _ h)) (below-tied x y es same (and_right _ _ h))

    entry-below : (q : K) (es : List (K × X)) → T (below_all R q es) → entry_of q es ≡ None
    entry-below q [] h = refl
    entry-below q (e ∷ es) h = ap (λ r. cond (is_eq r) (Some e) (entry_of q es)) (less _ (and_left _ _ h)) ∙ entry-below q es (and_right _ _ h)

    entry-first : (e : K × X) (es : List (K × X)) → entry_of e.0 (e ∷ es) ≡ Some e
    entry-first e es = ap (λ r. cond (is_eq r) (Some e) (entry_of e.0 es)) (tied_itself o e.0)

    -- ---- two lists

    missed : (e f : K × X) (es fs : List (K × X)) → R e.0 f.0 ≡ Less → T (below_all R f.0 fs) → entry_of e.0 (e ∷ es) ≡ entry_of e.0 (f ∷ fs) → ⊥
    missed e f es fs before h is = not_None e (sym (entry-first e es) ∙ is ∙ entry-below e.0 (f ∷ fs) (and_both _ _ (subst (λ r. T (is_lt r)) (sym before) tt) (below-less e.0 f.0 fs before h)))

    tails : (q : K) (e : K × X) (es fs : List (K × X)) → T (below_all R e.0 es) → T (below_all R e.0 fs) → entry_of q (e ∷ es) ≡ entry_of q (e ∷ fs) → entry_of q es ≡ entry_of q fs
    tails q e es fs g h is = by (eq_by_cmp R q e.0) refl is
      where
        by : (b : Bool) → eq_by_cmp R q e.0 ≡ b → cond b (Some e) (entry_of q es) ≡ cond b (Some e) (entry_of q fs) → entry_of q es ≡ entry_of q fs
        by true same is = entry-below q es (below-tied q e.0 es (is_eq-Equal _ same) g) ∙ sym (entry-below q fs (below-tied q e.0 fs (is_eq-Equal _ same) h))
        by false other is = is

    pub same_found : (es fs : List (K × X)) → T (is_sorted R es) → T (is_sorted R fs) → ((q : K) → entry_of q es ≡ entry_of q fs) → es ≡ fs
    same_found [] [] g h is = refl
    same_found [] (f ∷ fs) g h is = absurd (not_None f (sym (entry-first f fs) ∙ sym (is f.0)))
    same_found (e ∷ es) [] g h is = absurd (not_None e (sym (entry-first e es) ∙ is e.0))
    same_found (e ∷ es) (f ∷ fs) g h is = by (R e.0 f.0) refl (same_found es fs (and_right _ _ g) (and_right _ _ h))
      where
        by : (r : Ordering) → R e.0 f.0 ≡ r → (((q : K) → entry_of q es ≡ entry_of q fs) → es ≡ fs) → e ∷ es ≡ f ∷ fs
        by Less order rest = absurd (missed e f es fs order (and_left _ _ h) (is e.0))
        by Greater order rest = absurd (missed f e fs es (o.antisymm f.0 e.0 ∙ ap ordering_reverse order) (and_left _ _ g) (sym (is f.0)))
        by Equal order rest =
            let same : e ≡ f = same_Some e f (sym (entry-first e es) ∙ is e.0 ∙ ap (λ r. cond (is_eq r) (Some f) (entry_of e.0 fs)) order) in
            let later = rest (λ q. tails q e es fs (and_left _ _ g) (below-tied e.0 f.0 fs order (and_left _ _ h)) (is q ∙ ap (λ (d : K × X). entry_of q (d ∷ fs)) (sym same))) in
            λ i. same i ∷ later i

    -- ---- keys that come

    absent-tied : (q k : K) (es : List (K × X)) → R q k ≡ Equal → find R k es ≡ None → entry_of q es ≡ None
    absent-tied q k es same none = is_None (entry_of q es) (is_some-entry q es ∙ ap is_some (sym (find_tied R o q k same es) ∙ none))

    put-itself : (q k : K) (x : X) (es : List (K × X)) → R q k ≡ Equal → find R k es ≡ None → entry_of q (put R k x es) ≡ Some (k, x)
    put-itself q k x [] same none = ap (λ r. cond (is_eq r) (Some (k, x)) None) same
    put-itself q k x (e ∷ es) same none = by (R k e.0) refl none (put-itself q k x es same)
      where
        by : (r : Ordering) → R k e.0 ≡ r → cond (is_eq r) (Some e.1) (find R k es) ≡ None → (find R k es ≡ None → entry_of q (put R k x es) ≡ Some (k, x))
            → entry_of q (by_order r ((k, x) ∷ e ∷ es) ((e.0, x) ∷ es) (e ∷ put R k x es)) ≡ Some (k, x)
        by Less is h rest = ap (λ r. cond (is_eq r) (Some (k, x)) (entry_of q (e ∷ es))) same
        by Equal is h rest = absurd cc
        by Greater is h rest = ap (λ r. cond (is_eq r) (Some e) (entry_of q (put R k x es))) (o.congr q k e.0 same ∙ is) ∙ rest h

    put-other : (q k : K) (x : X) (es : List (K × X)) → eq_by_cmp R q k ≡ false → find R k es ≡ None → entry_of q (put R k x es) ≡ entry_of q es
    put-other q k x [] other none = ap (λ b. cond b (Some (k, x)) None) other
    put-other q k x (e ∷ es) other none = by (R k e.0) none (put-other q k x es other)
      where
        by : (r : Ordering) → cond (is_eq r) (Some e.1) (find R k es) ≡ None → (find R k es ≡ None → entry_of q (put R k x es) ≡ entry_of q es)
            → entry_of q (by_order r ((k, x) ∷ e ∷ es) ((e.0, x) ∷ es) (e ∷ put R k x es)) ≡ entry_of q (e ∷ es)
        by Less h rest = ap (λ b. cond b (Some (k, x)) (entry_of q (e ∷ es))) other
        by Equal h rest = absurd cc
        by Greater h rest = ap (λ (f : Option (K × X)). cond (eq_by_cmp R q e.0) (Some e) f) (rest h)

    pub entry_added : (x : X) (q k : K) (es : List (K × X)) → entry_of q (added x k es) ≡ option_or (entry_of q es) (cond (eq_by_cmp R q k) (Some (k, x)) None)
    entry_added x q k es = by (find R k es) refl (eq_by_cmp R q k) refl
      where
        by : (f : Option X) → find R k es ≡ f → (b : Bool) → eq_by_cmp R q k ≡ b → entry_of q (cond (is_some f) es (put R k x es)) ≡ option_or (entry_of q es) (cond b (Some (k, x)) None)
        by (Some y) found true same = sym (or_some (entry_of q es) (Some (k, x)) (is_some-entry q es ∙ ap is_some (sym (find_tied R o q k (is_eq-Equal _ same) es) ∙ found)))
        by (Some y) found false other = sym (or_none (entry_of q es))
        by None none true same = put-itself q k x es (is_eq-Equal _ same) none ∙ sym (ap (λ (f : Option (K × X)). option_or f (Some (k, x))) (absent-tied q k es (is_eq-Equal _ same) none))
        by None none false other = put-other q k x es other none ∙ sym (or_none (entry_of q es))

    pub entry_all : (x : X) (q : K) (ks : List K) (es : List (K × X)) → entry_of q (all_added x ks es) ≡ option_or (entry_of q es) (new_of x q ks)
    entry_all x q [] es = sym (or_none (entry_of q es))
    entry_all x q (k ∷ ks) es =
        entry_all x q ks (added x k es)
        ∙ ap (λ (f : Option (K × X)). option_or f (new_of x q ks)) (entry_added x q k es)
        ∙ or_next (entry_of q es) (eq_by_cmp R q k) (k, x) (new_of x q ks)

    pub sorted_added : (x : X) (k : K) (es : List (K × X)) → T (is_sorted R es) → T (is_sorted R (added x k es))
    sorted_added x k es h = by (is_some (find R k es))
      where
        by : (b : Bool) → T (is_sorted R (cond b es (put R k x es)))
        by true = h
        by false = is_sorted-put R o k x es h

    pub sorted_all : (x : X) (ks : List K) (es : List (K × X)) → T (is_sorted R es) → T (is_sorted R (all_added x ks es))
    sorted_all x [] es h = h
    sorted_all x (k ∷ ks) es h = sorted_all x ks (added x k es) (sorted_added x k es h)

    -- what is found of keys that come doesn't depend on their order, where keys that tie are equal
    pub same_new : (x : X) (q : K) (before these those : List K) → AreAlike R before these those → is_among R q before ≡ false → is_among R q these ≡ true → is_among R q those ≡ true
        → new_of x q these ≡ new_of x q those
    same_new x q before [] those alike absent here there = absurd cc
    same_new x q before (k ∷ ks) those alike absent here there = by (eq_by_cmp R q k) refl here (λ h. same_new x q before ks those alike.1 absent h there)
      where
        one : (ls : List K) → R q k ≡ Equal → AllByRecursion (λ l. is_among R l before ≡ false → eq_by_cmp R k l ≡ true → k ≡ l) ls → is_among R q ls ≡ true → Some (k, x) ≡ new_of x q ls
        one [] same each there = absurd cc
        one (l ∷ ls) same each there = at (eq_by_cmp R q l) refl there (one ls same each.1)
          where
            at : (b : Bool) → eq_by_cmp R q l ≡ b → (b || is_among R q ls) ≡ true → (is_among R q ls ≡ true → Some (k, x) ≡ new_of x q ls) → Some (k, x) ≡ cond b (Some (l, x)) (new_of x q ls)
            at true is h rest = ap (λ (j : K). Some (j, x)) (each.0 (sym (list_any_congr (eq_by_cmp_equiv o) q l before is) ∙ absent) (ap is_eq (sym (o.congr q k l same)) ∙ is))
            at false is h rest = rest h

        by : (b : Bool) → eq_by_cmp R q k ≡ b → (b || is_among R q ks) ≡ true → (is_among R q ks ≡ true → new_of x q ks ≡ new_of x q those) → cond b (Some (k, x)) (new_of x q ks) ≡ new_of x q those
        by true is h rest = one those (is_eq-Equal _ is) alike.0 there
        by false is h rest = rest h

    -- ---- keys that stay

    pub entry_left : (q : K) (ks : List K) (es : List (K × X)) → entry_of q (left_by ks es) ≡ cond (is_among R q ks) (entry_of q es) None
    entry_left q ks [] = sym (nothing (is_among R q ks))
    entry_left q ks (e ∷ es) = by (eq_by_cmp R q e.0) refl (is_among R q ks) (is_among R e.0 ks) (λ same. list_any_congr (eq_by_cmp_equiv o) q e.0 ks same) (entry_left q ks es)
      where
        rest : List (K × X)
        rest = left_by ks es

        by : (t : Bool) → eq_by_cmp R q e.0 ≡ t → (b c : Bool) → (eq_by_cmp R q e.0 ≡ true → b ≡ c) → entry_of q rest ≡ cond b (entry_of q es) None
            → entry_of q (cond c (e ∷ rest) rest) ≡ cond b (cond t (Some e) (entry_of q es)) None
        by true is true true alike h = ap (λ t. cond t (Some e) (entry_of q rest)) is
        by true is true false alike h = let no = alike is in absurd cc
        by true is false true alike h = let no = alike is in absurd cc
        by true is false false alike h = h
        by false is b true alike h = ap (λ t. cond t (Some e) (entry_of q rest)) is ∙ h
        by false is b false alike h = h

    pub sorted_left : (ks : List K) (es : List (K × X)) → T (is_sorted R es) → T (is_sorted R (left_by ks es))
    sorted_left ks es h = is_sorted-where_key R (λ k. is_among R k ks) es h
