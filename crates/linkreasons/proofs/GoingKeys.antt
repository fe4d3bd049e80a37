-- Keys come and go by lists of keys, in lists in their order.
--     follows      those that come, and then only those that stay, are those that stay with those that come
--     fewer_left, left_alike, none_left_out      those that stay of those that stay; by two lists that tie with the same; where all stay
--     begun_left, sorted_begun, is_some-begun      the value of one key becomes another
use Rattle.std.proofs.Common.{◌≡◌, Bool, true, false, cond, ◌&&◌, ◌||◌, T, List, [], ◌∷◌, map, Option, Some, None, is_some, refl, sym, ap, ◌∙◌}
use Rattle.std.specs.Option.{option_or}
use Rattle.std.specs.Ordering.{is_lt, is_eq, eq_by_cmp}
use Rattle.std.specs.Cmp.{IsTotalOrder}
use Rattle.std.specs.FinMap.Entries.{below_all, find, is_sorted}
use Rattle.std.specs.declared.cmp.Ordering.{Ordering}
use Rattle.std.proofs.lemmas.Cmp.{tied_itself}
use Rattle.linkreasons.proofs.FoundEntries.{AreAlike, all_added, entry_all, entry_left, entry_of, is_among, is_some-entry, is_some-new, left_by, new_of, none-new, same_found, same_new, sorted_all, sorted_left}

module _ {K X : Type 0} (R : K → K → Ordering) where
  -- ---- those that stay

  pub fewer_left : (some fewer : List K) → ((q : K) → is_among R q fewer ≡ true → is_among R q some ≡ true) → (es : List (K × X)) → left_by R fewer (left_by R some es) ≡ left_by R fewer es
  fewer_left some fewer among [] = refl
  fewer_left some fewer among (e ∷ es) = by (is_among R e.0 some) refl (is_among R e.0 fewer) refl (fewer_left some fewer among es)
    where
      by : (b : Bool) → is_among R e.0 some ≡ b → (c : Bool) → is_among R e.0 fewer ≡ c → left_by R fewer (left_by R some es) ≡ left_by R fewer es
          → left_by R fewer (cond b (e ∷ left_by R some es) (left_by R some es)) ≡ left_by R fewer (e ∷ es)
      by true in_some c in_fewer rest = ap (λ (l : List (K × X)). cond (is_among R e.0 fewer) (e ∷ l) l) rest
      by false in_some true in_fewer rest = let no = among e.0 in_fewer in absurd cc
      by false in_some false in_fewer rest = rest ∙ sym (ap (λ b. cond b (e ∷ left_by R fewer es) (left_by R fewer es)) in_fewer)

  -- those that stay are told by what ties
  pub left_alike : (these those : List K) → ((q : K) → is_among R q these ≡ is_among R q those) → (es : List (K × X)) → left_by R these es ≡ left_by R those es
  left_alike these those same [] = refl
  left_alike these those same (e ∷ es) = λ i. cond (same e.0 i) (e ∷ left_alike these those same es i) (left_alike these those same es i)

  -- ---- one value becomes another

  abbrev pub begun : K → X → List (K × X) → List (K × X)
  begun k x es = map (λ e. cond (eq_by_cmp R k e.0) (e.0, x) e) es

  same-key : (x : X) (e : K × X) (b : Bool) → (cond b (e.0, x) e).0 ≡ e.0
  same-key x e true = refl
  same-key x e false = refl

  pub begun_left : (k : K) (x : X) (ks : List K) (es : List (K × X)) → left_by R ks (begun k x es) ≡ begun k x (left_by R ks es)
  begun_left k x ks [] = refl
  begun_left k x ks (e ∷ es) = ap (λ j. cond (is_among R j ks) (one ∷ left_by R ks (begun k x es)) (left_by R ks (begun k x es))) (same-key x e (eq_by_cmp R k e.0)) ∙ by (is_among R e.0 ks) (begun_left k x ks es)
    where
      one : K × X
      one = cond (eq_by_cmp R k e.0) (e.0, x) e

      by : (b : Bool) → left_by R ks (begun k x es) ≡ begun k x (left_by R ks es)
          → cond b (one ∷ left_by R ks (begun k x es)) (left_by R ks (begun k x es)) ≡ begun k x (cond b (e ∷ left_by R ks es) (left_by R ks es))
      by true rest = ap (λ (l : List (K × X)). one ∷ l) rest
      by false rest = rest

  below-begun : (q k : K) (x : X) (es : List (K × X)) → below_all R q (begun k x es) ≡ below_all R q es
  below-begun q k x [] = refl
  below-begun q k x (e ∷ es) = λ i. is_lt (R q (same-key x e (eq_by_cmp R k e.0) i)) && below-begun q k x es i

  pub sorted_begun : (k : K) (x : X) (es : List (K × X)) → is_sorted R (begun k x es) ≡ is_sorted R es
  sorted_begun k x [] = refl
  sorted_begun k x (e ∷ es) =
      ap (λ j. below_all R j (begun k x es) && is_sorted R (begun k x es)) (same-key x e (eq_by_cmp R k e.0))
      ∙ (λ i. below-begun e.0 k x es i && sorted_begun k x es i)

  pub is_some-begun : (q k : K) (x : X) (es : List (K × X)) → is_some (find R q (begun k x es)) ≡ is_some (find R q es)
  is_some-begun q k x [] = refl
  is_some-begun q k x (e ∷ es) =
      ap (λ j. is_some (cond (eq_by_cmp R q j) (Some one.1) (find R q (begun k x es)))) (same-key x e (eq_by_cmp R k e.0)) ∙ by (eq_by_cmp R q e.0) (is_some-begun q k x es)
    where
      one : K × X
      one = cond (eq_by_cmp R k e.0) (e.0, x) e

      by : (b : Bool) → is_some (find R q (begun k x es)) ≡ is_some (find R q es) → is_some (cond b (Some one.1) (find R q (begun k x es))) ≡ is_some (cond b (Some e.1) (find R q es))
      by true rest = refl
      by false rest = rest

  module _ (o : IsTotalOrder R) where
    -- all stay
    pub none_left_out : (ks : List K) (es : List (K × X)) → ((q : K) → is_some (find R q es) ≡ true → is_among R q ks ≡ true) → left_by R ks es ≡ es
    none_left_out ks [] each = refl
    none_left_out ks (e ∷ es) each =
        ap (λ b. cond b (e ∷ left_by R ks es) (left_by R ks es)) (each e.0 (ap (λ r. is_some (cond (is_eq r) (Some e.1) (find R e.0 es))) (tied_itself o e.0)))
        ∙ ap (λ (l : List (K × X)). e ∷ l) (none_left_out ks es (λ q h. each q (by q (eq_by_cmp R q e.0) h)))
      where
        by : (q : K) (b : Bool) → is_some (find R q es) ≡ true → is_some (cond b (Some e.1) (find R q es)) ≡ true
        by q true h = refl
        by q false h = h

    -- ---- those that come, and those that stay

    pub follows : (x : X) (before gained later : List K) (es : List (K × X)) → T (is_sorted R es) → ((q : K) → is_some (find R q es) ≡ is_among R q before)
        → ((q : K) → is_among R q later ≡ true → (is_among R q before || is_among R q gained) ≡ true) → AreAlike R before gained later
        → left_by R later (all_added R x gained es) ≡ all_added R x later (left_by R later es)
    follows x before gained later es sorted there covered alike =
        same_found R o _ _ (sorted_left R o later _ (sorted_all R o x gained es sorted)) (sorted_all R o x later _ (sorted_left R o later es sorted)) (λ q. at q)
      where
        by : (q : K) (b : Bool) → is_among R q later ≡ b → (f : Option (K × X)) → entry_of R q es ≡ f → cond b (option_or f (new_of R x q gained)) None ≡ option_or (cond b f None) (new_of R x q later)
        by q true stays (Some e) found = refl
        by q true stays None found =
            let absent : is_among R q before ≡ false = sym (there q) ∙ sym (is_some-entry R q es) ∙ ap is_some found in
            let comes : is_among R q gained ≡ true = sym (ap (λ b. b || is_among R q gained) absent) ∙ covered q stays in
            same_new R o x q before gained later alike absent comes stays
        by q false goes f found = sym (none-new R x q later goes)

        at : (q : K) → entry_of R q (left_by R later (all_added R x gained es)) ≡ entry_of R q (all_added R x later (left_by R later es))
        at q =
            entry_left R o q later (all_added R x gained es)
            ∙ ap (λ (f : Option (K × X)). cond (is_among R q later) f None) (entry_all R o x q gained es)
            ∙ by q (is_among R q later) refl (entry_of R q es) refl
            ∙ sym (ap (λ (f : Option (K × X)). option_or f (new_of R x q later)) (entry_left R o q later es))
            ∙ sym (entry_all R o x q later (left_by R later es))

    pub is_some-follows : (x : X) (ks : List K) (q : K) (es : List (K × X)) → is_some (find R q (all_added R x ks (left_by R ks es))) ≡ is_among R q ks
    is_some-follows x ks q es =
        sym (is_some-entry R q (all_added R x ks (left_by R ks es)))
        ∙ ap is_some (entry_all R o x q ks (left_by R ks es) ∙ ap (λ (f : Option (K × X)). option_or f (new_of R x q ks)) (entry_left R o q ks es))
        ∙ by (is_among R q ks) refl (entry_of R q es)
      where
        by : (b : Bool) → is_among R q ks ≡ b → (f : Option (K × X)) → is_some (option_or (cond b f None) (new_of R x q ks)) ≡ b
        by true is (Some e) = refl
        by true is None = is_some-new R x q ks ∙ is
        by false is f = is_some-new R x q ks ∙ is
