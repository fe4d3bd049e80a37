-- Lists in key order: a change at a key leaves what stands before and behind it.
use Rattle.std.proofs.Common.{◌≡◌, Bool, true, false, cond, not, List, [], ◌∷◌, ◌++◌, Option, Some, None, refl, ap, ◌∙◌}
use Rattle.std.specs.Ordering.{is_eq, eq_by_cmp}
use Rattle.std.specs.List.{AllByRecursion, filter}
use Rattle.std.specs.FinMap.Entries.{by_order, put, find}
use Rattle.std.specs.declared.cmp.Ordering.{Ordering}
use Rattle.std.specs.declared.cmp.Ordering.TheVariants.{Less, Equal, Greater}

module _ {X : Type 0} where
  pub all-append : (P : X → Type 0) (xs ys : List X) → AllByRecursion P xs → AllByRecursion P ys → AllByRecursion P (xs ++ ys)
  all-append P [] ys h g = g
  all-append P (x ∷ xs) ys h g = (h.0, all-append P xs ys h.1 g)

  pub all-front : (P : X → Type 0) (xs ys : List X) → AllByRecursion P (xs ++ ys) → AllByRecursion P xs
  all-front P [] ys h = tt
  all-front P (x ∷ xs) ys h = (h.0, all-front P xs ys h.1)

  pub all-back : (P : X → Type 0) (xs ys : List X) → AllByRecursion P (xs ++ ys) → AllByRecursion P ys
  all-back P [] ys h = h
  all-back P (x ∷ xs) ys h = all-back P xs ys h.1

  pub all-to : (P Q : X → Type 0) → ((x : X) → P x → Q x) → (xs : List X) → AllByRecursion P xs → AllByRecursion Q xs
  all-to P Q to [] h = tt
  all-to P Q to (x ∷ xs) h = (to x h.0, all-to P Q to xs h.1)

module _ {K X : Type 0} (R : K → K → Ordering) where
  -- the keys are less than this one, and greater
  abbrev pub KeysBefore : K → List (K × X) → Type 0
  KeysBefore k es = AllByRecursion (λ e. R k e.0 ≡ Greater) es

  abbrev pub KeysBehind : K → List (K × X) → Type 0
  KeysBehind k es = AllByRecursion (λ e. R k e.0 ≡ Less) es

  put-behind : (k : K) (v : X) (xs ys : List (K × X)) → KeysBefore k xs → put R k v (xs ++ ys) ≡ xs ++ put R k v ys
  put-behind k v [] ys h = refl
  put-behind k v (e ∷ es) ys h =
      ap (λ (r : Ordering). by_order r ((k, v) ∷ e ∷ (es ++ ys)) ((e.0, v) ∷ (es ++ ys)) (e ∷ put R k v (es ++ ys))) h.0
      ∙ ap (λ (l : List (K × X)). e ∷ l) (put-behind k v es ys h.1)

  put-front : (k : K) (v : X) (ys zs : List (K × X)) → KeysBehind k zs → put R k v (ys ++ zs) ≡ put R k v ys ++ zs
  put-front k v [] [] h = refl
  put-front k v [] (z ∷ zs) h = ap (λ (r : Ordering). by_order r ((k, v) ∷ z ∷ zs) ((z.0, v) ∷ zs) (z ∷ put R k v zs)) h.0
  put-front k v (e ∷ es) zs h = by (R k e.0) (put-front k v es zs h)
    where
      by : (r : Ordering) → put R k v (es ++ zs) ≡ put R k v es ++ zs
          → by_order r ((k, v) ∷ e ∷ (es ++ zs)) ((e.0, v) ∷ (es ++ zs)) (e ∷ put R k v (es ++ zs)) ≡ by_order r ((k, v) ∷ e ∷ es) ((e.0, v) ∷ es) (e ∷ put R k v es) ++ zs
      by Less rest = refl
      by Equal rest = refl
      by Greater rest = ap (λ (l : List (K × X)). e ∷ l) rest

  pub put-between : (k : K) (v : X) (xs ys zs : List (K × X)) → KeysBefore k xs → KeysBehind k zs → put R k v (xs ++ (ys ++ zs)) ≡ xs ++ (put R k v ys ++ zs)
  put-between k v xs ys zs h g = put-behind k v xs (ys ++ zs) h ∙ ap (λ (l : List (K × X)). xs ++ l) (put-front k v ys zs g)

  find-behind : (k : K) (xs ys : List (K × X)) → KeysBefore k xs → find R k (xs ++ ys) ≡ find R k ys
  find-behind k [] ys h = refl
  find-behind k (e ∷ es) ys h = ap (λ (r : Ordering). cond (is_eq r) (Some e.1) (find R k (es ++ ys))) h.0 ∙ find-behind k es ys h.1

  find-front : (k : K) (ys zs : List (K × X)) → KeysBehind k zs → find R k (ys ++ zs) ≡ find R k ys
  find-front k [] [] h = refl
  find-front k [] (z ∷ zs) h = ap (λ (r : Ordering). cond (is_eq r) (Some z.1) (find R k zs)) h.0 ∙ find-front k [] zs h.1
  find-front k (e ∷ es) zs h = ap (λ (o : Option X). cond (is_eq (R k e.0)) (Some e.1) o) (find-front k es zs h)

  pub find-between : (k : K) (xs ys zs : List (K × X)) → KeysBefore k xs → KeysBehind k zs → find R k (xs ++ (ys ++ zs)) ≡ find R k ys
  find-between k xs ys zs h g = find-behind k xs (ys ++ zs) h ∙ find-front k ys zs g

  pub find-append : (k : K) (xs ys : List (K × X)) → find R k (xs ++ ys) ≡ elim (find R k xs) [ None ↦ find R k ys | Some v ↦ Some v ]
  find-append k [] ys = refl
  find-append k (x ∷ xs) ys = by (is_eq (R k x.0)) (find-append k xs ys)
    where
      by : (b : Bool) → find R k (xs ++ ys) ≡ elim (find R k xs) [ None ↦ find R k ys | Some v ↦ Some v ]
          → cond b (Some x.1) (find R k (xs ++ ys)) ≡ elim (cond b (Some x.1) (find R k xs)) [ None ↦ find R k ys | Some v ↦ Some v ]
      by true h = refl
      by false h = h

  without-before : (k : K) (es : List (K × X)) → KeysBefore k es → filter (λ e. not (eq_by_cmp R k e.0)) es ≡ es
  without-before k [] h = refl
  without-before k (e ∷ es) h =
      let kept = filter (λ e. not (eq_by_cmp R k e.0)) es in
      ap (λ (r : Ordering). cond (not (is_eq r)) (e ∷ kept) kept) h.0 ∙ ap (λ (l : List (K × X)). e ∷ l) (without-before k es h.1)

  without-behind : (k : K) (es : List (K × X)) → KeysBehind k es → filter (λ e. not (eq_by_cmp R k e.0)) es ≡ es
  without-behind k [] h = refl
  without-behind k (e ∷ es) h =
      let kept = filter (λ e. not (eq_by_cmp R k e.0)) es in
      ap (λ (r : Ordering). cond (not (is_eq r)) (e ∷ kept) kept) h.0 ∙ ap (λ (l : List (K × X)). e ∷ l) (without-behind k es h.1)

  filter-both : (p : K × X → Bool) (xs ys : List (K × X)) → filter p (xs ++ ys) ≡ filter p xs ++ filter p ys
  filter-both p [] ys = refl
  filter-both p (x ∷ xs) ys = by (p x) (filter-both p xs ys)
    where
      by : (b : Bool) → filter p (xs ++ ys) ≡ filter p xs ++ filter p ys → cond b (x ∷ filter p (xs ++ ys)) (filter p (xs ++ ys)) ≡ cond b (x ∷ filter p xs) (filter p xs) ++ filter p ys
      by true h = ap (λ (l : List (K × X)). x ∷ l) h
      by false h = h

  pub without-between : (k : K) (xs ys zs : List (K × X)) → KeysBefore k xs → KeysBehind k zs
      → filter (λ e. not (eq_by_cmp R k e.0)) (xs ++ (ys ++ zs)) ≡ xs ++ (filter (λ e. not (eq_by_cmp R k e.0)) ys ++ zs)
  without-between k xs ys zs h g =
      filter-both (λ e. not (eq_by_cmp R k e.0)) xs (ys ++ zs)
      ∙ ap (λ (l : List (K × X)). l ++ filter (λ e. not (eq_by_cmp R k e.0)) (ys ++ zs)) (without-before k xs h)
      ∙ ap (λ (l : List (K × X)). xs ++ l) (filter-both (λ e. not (eq_by_cmp R k e.0)) ys zs ∙ ap (λ (l : List (K × X)). filter (λ e. not (eq_by_cmp R k e.0)) ys ++ l) (without-behind k zs g))
