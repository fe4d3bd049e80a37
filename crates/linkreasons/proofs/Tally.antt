-- Lists of keys and maps from keys to how often they stand there.
--     times-append, times-same, any-times      how often a key stands in two lists; a key that ties with it; whether it stands there
--     find-mapped, sorted-mapped, put-mapped, where-mapped      a map with other values
--     filter-alike, filter-all      tests that agree on the keys that are there
--     tally-more, tally-less, tally-without      a key comes; one goes of several; the last goes
use Rattle.std.proofs.Common.{◌≡◌, ℕ, ◌+◌, ◌<◌, Bool, true, false, cond, not, List, [], ◌∷◌, ◌++◌, map, Some, None, is_some, refl, sym, ap, ◌∙◌, arith}
use Rattle.std.proofs.lemmas.Bool.Decides.{nat_tests}
use Rattle.std.specs.Prelude.{filter, nat_lt, option_map, ◌==◌, ◌||◌, ◌&&◌}
use Rattle.std.specs.List.{list_any}
use Rattle.std.specs.Cmp.{IsTotalOrder, alike_right, tied_back, tied_itself}
use Rattle.std.specs.Ordering.{eq_by_cmp, is_eq, is_lt}
use Rattle.std.specs.declared.cmp.Ordering.{Ordering}
use Rattle.std.specs.declared.cmp.Ordering.TheVariants.{Less, Equal, Greater}
use Rattle.std.specs.FinMap.Entries.{below_all, by_order, find, find-put, find-where_key, is_sorted, put}
use Rattle.linkreasons.specs.Tallies.{IsTally, once, positive, times}

equal : (r : Ordering) → is_eq r ≡ true → r ≡ Equal
equal Less e = absurd cc
equal Equal e = refl
equal Greater e = absurd cc

pub positive-some : (n : ℕ) → 0 < n → positive n ≡ Some n
positive-some n some =
    let not_none : (n == 0) ≡ false = grind (arith, nat_tests) in
    ap (λ b. cond b None (Some n)) not_none

-- ---- a map with other values

module _ {K X Y : Type 0} (R : K → K → Ordering) (f : X → Y) where
  abbrev mapped : List (K × X) → List (K × Y)
  mapped es = map (λ e. (e.0, f e.1)) es

  pub find-mapped : (q : K) (es : List (K × X)) → find R q (mapped es) ≡ option_map f (find R q es)
  find-mapped q [] = refl
  find-mapped q (e ∷ es) = by (eq_by_cmp R q e.0) (find-mapped q es)
    where
      by : (b : Bool) → find R q (mapped es) ≡ option_map f (find R q es) → cond b (Some (f e.1)) (find R q (mapped es)) ≡ option_map f (cond b (Some e.1) (find R q es))
      by true rest = refl
      by false rest = rest

  below-mapped : (x : K) (es : List (K × X)) → below_all R x (mapped es) ≡ below_all R x es
  below-mapped x [] = refl
  below-mapped x (e ∷ es) = ap (λ b. is_lt (R x e.0) && b) (below-mapped x es)

  pub sorted-mapped : (es : List (K × X)) → is_sorted R (mapped es) ≡ is_sorted R es
  sorted-mapped [] = refl
  sorted-mapped (e ∷ es) = λ i. below-mapped e.0 es i && sorted-mapped es i

  pub put-mapped : (q : K) (x : X) (es : List (K × X)) → mapped (put R q x es) ≡ put R q (f x) (mapped es)
  put-mapped q x [] = refl
  put-mapped q x (e ∷ es) = by (R q e.0) (put-mapped q x es)
    where
      by : (r : Ordering) → mapped (put R q x es) ≡ put R q (f x) (mapped es)
          → mapped (by_order r ((q, x) ∷ e ∷ es) ((e.0, x) ∷ es) (e ∷ put R q x es)) ≡ by_order r ((q, f x) ∷ (e.0, f e.1) ∷ mapped es) ((e.0, f x) ∷ mapped es) ((e.0, f e.1) ∷ put R q (f x) (mapped es))
      by Less rest = refl
      by Equal rest = refl
      by Greater rest = ap (λ (l : List (K × Y)). (e.0, f e.1) ∷ l) rest

  pub where-mapped : (p : K → Bool) (es : List (K × X)) → mapped (filter (λ e. p e.0) es) ≡ filter (λ e. p e.0) (mapped es)
  where-mapped p [] = refl
  where-mapped p (e ∷ es) = by (p e.0) (where-mapped p es)
    where
      left : List (K × X)
      left = filter (λ e. p e.0) es

      by : (b : Bool) → mapped left ≡ filter (λ e. p e.0) (mapped es) → mapped (cond b (e ∷ left) left) ≡ cond b ((e.0, f e.1) ∷ filter (λ e. p e.0) (mapped es)) (filter (λ e. p e.0) (mapped es))
      by true rest = ap (λ (l : List (K × Y)). (e.0, f e.1) ∷ l) rest
      by false rest = rest

module _ {K : Type 0} {R : K → K → Ordering} (o : IsTotalOrder R) where
  -- ---- how often a key stands there

  pub times-append : (q : K) (a b : List K) → times R q (a ++ b) ≡ times R q a + times R q b
  times-append q [] b = omega arith
  times-append q (k ∷ a) b = let rest = times-append q a b in omega (arith, rest)

  pub times-same : (x y : K) → R x y ≡ Equal → (ks : List K) → times R x ks ≡ times R y ks
  times-same x y e [] = refl
  times-same x y e (k ∷ ks) = λ i. once (is_eq (o.congr x y k e i)) + times-same x y e ks i

  pub any-times : (q : K) (ks : List K) → list_any (eq_by_cmp R q) ks ≡ nat_lt 0 (times R q ks)
  any-times q [] = refl
  any-times q (k ∷ ks) = by (eq_by_cmp R q k) (any-times q ks)
    where
      by : (b : Bool) → list_any (eq_by_cmp R q) ks ≡ nat_lt 0 (times R q ks) → (b || list_any (eq_by_cmp R q) ks) ≡ nat_lt 0 (once b + times R q ks)
      by true rest = grind (arith, nat_tests)
      by false rest = rest ∙ grind (arith, nat_tests)

  pub same-back : (x y : K) → eq_by_cmp R x y ≡ true → eq_by_cmp R y x ≡ true
  same-back x y e = ap is_eq (tied_back o x y (equal (R x y) e))

  pub same-itself : (x : K) → eq_by_cmp R x x ≡ true
  same-itself x = ap is_eq (tied_itself o x)

  -- ---- tests that agree on the keys that are there

  pub filter-alike : {X : Type 0} (p t : K → Bool) (es : List (K × X)) → ((q : K) → is_some (find R q es) ≡ true → p q ≡ t q) → filter (λ e. p e.0) es ≡ filter (λ e. t e.0) es
  filter-alike p t [] alike = refl
  filter-alike {X = X} p t (e ∷ es) alike =
      let first = alike e.0 (ap (λ b. is_some (cond b (Some e.1) (find R e.0 es))) (same-itself e.0)) in
      let rest = filter-alike p t es (λ q some. alike q (behind q some (eq_by_cmp R q e.0))) in
      λ i. cond (first i) (e ∷ rest i) (rest i)
    where
      behind : (q : K) → is_some (find R q es) ≡ true → (b : Bool) → is_some (cond b (Some e.1) (find R q es)) ≡ true
      behind q some true = refl
      behind q some false = some

  all-pass : {A : Type 0} (xs : List A) → filter (λ _. true) xs ≡ xs
  all-pass [] = refl
  all-pass (x ∷ xs) = λ i. x ∷ all-pass xs i

  pub filter-all : {X : Type 0} (p : K → Bool) (es : List (K × X)) → ((q : K) → is_some (find R q es) ≡ true → p q ≡ true) → filter (λ e. p e.0) es ≡ es
  filter-all p es all = filter-alike p (λ _. true) es all ∙ all-pass es

  -- ---- a key comes or goes

  pub tally-alike : (ks ls : List K) (es : List (K × ℕ)) → IsTally R ks es → ((q : K) → times R q ks ≡ times R q ls) → IsTally R ls es
  tally-alike ks ls es is same q = is q ∙ ap positive (same q)

  pub tally-more : (q : K) (n : ℕ) (ks : List K) (es : List (K × ℕ)) → IsTally R ks es → n ≡ 1 + times R q ks → IsTally R (q ∷ ks) (put R q n es)
  tally-more q n ks es is n-is x = find-put R o x q n es ∙ by (eq_by_cmp R x q) refl
    where
      by : (b : Bool) → eq_by_cmp R x q ≡ b → cond b (Some n) (find R x es) ≡ positive (once b + times R x ks)
      by true same =
          let alike = times-same x q (equal (R x q) same) ks in
          let number : n ≡ 1 + times R x ks = n-is ∙ ap (λ t. 1 + t) (sym alike) in
          ap Some number ∙ sym (positive-some (1 + times R x ks) (omega arith))
      by false other = is x ∙ ap positive (omega arith)

  pub tally-less : (q : K) (n : ℕ) (ks : List K) (es : List (K × ℕ)) → IsTally R (q ∷ ks) es → n ≡ times R q ks → 0 < n → IsTally R ks (put R q n es)
  tally-less q n ks es is n-is some x = find-put R o x q n es ∙ by (eq_by_cmp R x q) refl (is x)
    where
      by : (b : Bool) → eq_by_cmp R x q ≡ b → find R x es ≡ positive (once b + times R x ks) → cond b (Some n) (find R x es) ≡ positive (times R x ks)
      by true same found =
          let alike = times-same x q (equal (R x q) same) ks in
          let number : n ≡ times R x ks = n-is ∙ sym alike in
          let more : 0 < times R x ks = omega (arith, number, some) in
          ap Some number ∙ sym (positive-some (times R x ks) more)
      by false other found = found ∙ ap positive (omega arith)

  pub tally-without : (q : K) (ks : List K) (es : List (K × ℕ)) → IsTally R (q ∷ ks) es → times R q ks ≡ 0 → IsTally R ks (filter (λ e. not (eq_by_cmp R q e.0)) es)
  tally-without q ks es is none x =
      find-where_key R (λ k. not (eq_by_cmp R q k)) x (λ y e. ap (λ r. not (is_eq r)) (sym (alike_right o x y q e))) es ∙ by (eq_by_cmp R q x) (eq_by_cmp R x q) refl refl (is x)
    where
      by : (b c : Bool) → eq_by_cmp R q x ≡ b → eq_by_cmp R x q ≡ c → find R x es ≡ positive (once c + times R x ks) → cond (not b) (find R x es) None ≡ positive (times R x ks)
      by true c same back found =
          let alike = times-same q x (equal (R q x) same) ks in
          ap positive (sym none ∙ alike)
      by false true other back found = let same = same-back x q back in absurd cc
      by false false other back found = found ∙ ap positive (omega arith)
