-- Octets that are compared by eights or fours.
--     eight_is, four_is      the number of octets that are read one by one
--     past      octets that begin alike are ordered as what follows
--     decided_by, alike_behind, ended_alike, alike_front      the number of so many octets, by whether those of the other
--         are the same
use Rattle.std.proofs.Common.{◌≡◌, ℕ, zero, suc, ◌+◌, ◌-◌, ◌*◌, ◌<◌, ◌≤◌, min, true, false, true≢false, List, [], ◌∷◌, length, get_or, take, drop, refl, sym, ap, subst, ◌∙◌, arith}
use Rattle.std.specs.Ordering.{is_ne, nat_cmp, ordering_reverse, ordering_then, MatchOrdering}
use Rattle.std.specs.List.{AllByRecursion}
use Rattle.std.specs.declared.cmp.Ordering.{Ordering}
use Rattle.std.specs.declared.cmp.Ordering.TheVariants.{Less, Equal, Greater}
use Rattle.std.specs.Cmp.{nat_cmp_is}
use Rattle.std.specs.Cmp.Lexicographic.{nat_list_cmp_total, slice_cmp}
use Rattle.std.specs.Int.{w32, w64, from_be_bytes}
use Rattle.std.proofs.lemmas.Cmp.{ranked}
use Rattle.std.proofs.lemmas.List.{drop_more, length-drop, take-take}
use Rattle.dnsname.specs.Eights.{spelled}

abbrev octets_cmp : List ℕ → List ℕ → Ordering
octets_cmp a b = slice_cmp nat_cmp a b

-- the first so many are octets
abbrev AreBelow : ℕ → List ℕ → Type 0
AreBelow n os = AllByRecursion (λ o. o < 256) (take n os)

-- ---- octets that are read one by one

abbrev reads : List ℕ → ℕ → ℕ → ℕ → List ℕ
reads os i k zero = drop (i + k) os
reads os i k (suc n) = get_or os (i + k) 0 ∷ reads os i (suc k) n

read_out : (n : ℕ) (os : List ℕ) (i k : ℕ) → i + k + n ≤ length os → drop (i + k) os ≡ reads os i k n
read_out zero os i k le = refl
read_out (suc n) os i k le =
    let next : i + k + 1 ≡ i + suc k = omega arith in
    drop_more os (i + k) 0 (omega arith) ∙ ap (λ (l : List ℕ). get_or os (i + k) 0 ∷ l) (ap (λ (m : ℕ). drop m os) next ∙ read_out n os i (suc k) (omega arith))

pub eight_is : (os : List ℕ) (i : ℕ) → i + 8 ≤ length os
    → from_be_bytes w64 (get_or os i 0 ∷ get_or os (i + 1) 0 ∷ get_or os (i + 2) 0 ∷ get_or os (i + 3) 0 ∷ get_or os (i + 4) 0 ∷ get_or os (i + 5) 0 ∷ get_or os (i + 6) 0 ∷ get_or os (i + 7) 0 ∷ []) ≡ spelled 0 8 (drop i os)
eight_is os i le =
    let at : i ≡ i + 0 = omega arith in
    let here : get_or os (i + 0) 0 ≡ get_or os i 0 = ap (λ (k : ℕ). get_or os k 0) (sym at) in
    omega (arith, here) ∙ sym (ap (λ (k : ℕ). spelled 0 8 (drop k os)) at ∙ ap (spelled 0 8) (read_out 8 os i 0 (omega arith)))

pub four_is : (os : List ℕ) (i : ℕ) → i + 4 ≤ length os
    → from_be_bytes w32 (get_or os i 0 ∷ get_or os (i + 1) 0 ∷ get_or os (i + 2) 0 ∷ get_or os (i + 3) 0 ∷ []) ≡ spelled 0 4 (drop i os)
four_is os i le =
    let at : i ≡ i + 0 = omega arith in
    let here : get_or os (i + 0) 0 ≡ get_or os i 0 = ap (λ (k : ℕ). get_or os k 0) (sym at) in
    omega (arith, here) ∙ sym (ap (λ (k : ℕ). spelled 0 4 (drop k os)) at ∙ ap (spelled 0 4) (read_out 4 os i 0 (omega arith)))

-- ---- the octets behind decide nothing where what is before them differs

none_below : (n : ℕ) → AreBelow n []
none_below zero = tt
none_below (suc n) = tt

apart : (n a b : ℕ) (xs ys : List ℕ) → AreBelow n xs → a < b → spelled a n xs < spelled b n ys
apart zero a b xs ys below less = less
apart (suc n) a b [] [] below less = apart n (a * 256) (b * 256) [] [] (none_below n) (omega arith)
apart (suc n) a b [] (y ∷ ys) below less = apart n (a * 256) (b * 256 + y) [] ys (none_below n) (omega arith)
apart (suc n) a b (x ∷ xs) [] below less = let small = below.0 in apart n (a * 256 + x) (b * 256) xs [] below.1 (omega (arith, small))
apart (suc n) a b (x ∷ xs) (y ∷ ys) below less = let small = below.0 in apart n (a * 256 + x) (b * 256 + y) xs ys below.1 (omega (arith, small))

-- no octets at all come after none
never_below : (n a : ℕ) (xs : List ℕ) → spelled a n [] ≤ spelled a n xs
never_below zero a xs = omega arith
never_below (suc n) a [] = omega arith
never_below (suc n) a (zero ∷ xs) = let same : a * 256 ≡ a * 256 + 0 = omega arith in subst (λ (b : ℕ). spelled (a * 256) n [] ≤ spelled b n xs) same (never_below n (a * 256) xs)
never_below (suc n) a (suc x ∷ xs) = let more = apart n (a * 256) (a * 256 + suc x) [] xs (none_below n) (omega arith) in omega (arith, more)

pub spelled-less : (n a : ℕ) (xs ys : List ℕ) → AreBelow n ys → spelled a n xs < spelled a n ys → octets_cmp xs ys ≡ Less
spelled-less zero a xs ys below less = absurd (omega (arith, less))
spelled-less (suc n) a [] [] below less = absurd (omega (arith, less))
spelled-less (suc n) a [] (y ∷ ys) below less = refl
spelled-less (suc n) a (x ∷ xs) [] below less = absurd (let least = never_below (suc n) a (x ∷ xs) in omega (arith, less, least))
spelled-less (suc n) a (x ∷ xs) (y ∷ ys) below less =
    by (nat_cmp x y) refl (ranked x y (nat_cmp x y) refl) (λ same. spelled-less n (a * 256 + x) xs ys below.1 (subst (λ (z : ℕ). spelled (a * 256 + x) n xs < spelled (a * 256 + z) n ys) (sym same) less))
  where
    by : (r : Ordering) → nat_cmp x y ≡ r → MatchOrdering r (x < y) (x ≡ y) (y < x) → (x ≡ y → octets_cmp xs ys ≡ Less) → ordering_then r (octets_cmp xs ys) ≡ Less
    by Less e is rest = refl
    by Equal e is rest = rest is
    by Greater e is rest = absurd (let more = apart n (a * 256 + y) (a * 256 + x) ys xs below.1 (omega (arith, is)) in omega (arith, less, more))

-- one number, one run of octets
spelled-same : (n a b : ℕ) (xs ys : List ℕ) → n ≤ length xs → n ≤ length ys → AreBelow n xs → AreBelow n ys → spelled a n xs ≡ spelled b n ys → (a ≡ b) × (take n xs ≡ take n ys)
spelled-same zero a b xs ys p q h g e = (e, refl)
spelled-same (suc n) a b [] ys p q h g e = absurd (omega arith)
spelled-same (suc n) a b (x ∷ xs) [] p q h g e = absurd (omega arith)
spelled-same (suc n) a b (x ∷ xs) (y ∷ ys) p q h g e =
    let rest = spelled-same n (a * 256 + x) (b * 256 + y) xs ys (omega arith) (omega arith) h.1 g.1 e in
    let before : a ≡ b = omega (arith, rest.0, h.0, g.0) in
    let first : x ≡ y = omega (arith, rest.0, h.0, g.0) in
    (before, λ i. first i ∷ rest.1 i)

-- ---- octets that begin alike

pub past : (n : ℕ) (xs ys : List ℕ) → take n xs ≡ take n ys → octets_cmp xs ys ≡ octets_cmp (drop n xs) (drop n ys)
past zero xs ys e = refl
past (suc n) [] [] e = refl
past (suc n) [] (y ∷ ys) e = absurd cc
past (suc n) (x ∷ xs) [] e = absurd cc
past (suc n) (x ∷ xs) (y ∷ ys) e =
    let first : x ≡ y = cc in
    let rest : take n xs ≡ take n ys = cc in
    ap (λ (r : Ordering). ordering_then r (octets_cmp xs ys)) (sym (nat_cmp_is x y Equal first)) ∙ past n xs ys rest

more_alike : (m n : ℕ) (xs ys : List ℕ) → take m xs ≡ take m ys → take n (drop m xs) ≡ take n (drop m ys) → take (m + n) xs ≡ take (m + n) ys
more_alike zero n xs ys e f = subst (λ (k : ℕ). take k xs ≡ take k ys) (omega arith) f
more_alike (suc m) n [] [] e f = refl
more_alike (suc m) n [] (y ∷ ys) e f = absurd cc
more_alike (suc m) n (x ∷ xs) [] e f = absurd cc
more_alike (suc m) n (x ∷ xs) (y ∷ ys) e f =
    let first : x ≡ y = cc in
    let rest : take m xs ≡ take m ys = cc in
    let all = more_alike m n xs ys rest f in
    let count : suc (m + n) ≡ suc m + n = omega arith in
    subst (λ (k : ℕ). take k (x ∷ xs) ≡ take k (y ∷ ys)) count (λ i. first i ∷ all i)

pub fewer_alike : (m n : ℕ) (xs ys : List ℕ) → n ≤ m → take m xs ≡ take m ys → take n xs ≡ take n ys
fewer_alike m n xs ys le e = sym (take-take n m xs le) ∙ ap (take n) e ∙ take-take n m ys le

-- one of both is at its end
one_ended : (a b : List ℕ) (m n i : ℕ) → length a + i ≡ m → length b + i ≡ n → i ≡ min m n → octets_cmp a b ≡ nat_cmp m n
one_ended [] [] m n i e f g = nat_cmp_is m n Equal (omega arith)
one_ended [] (y ∷ ys) m n i e f g = nat_cmp_is m n Less (omega arith)
one_ended (x ∷ xs) [] m n i e f g = nat_cmp_is m n Greater (omega arith)
one_ended (x ∷ xs) (y ∷ ys) m n i e f g = absurd (omega arith)

-- ---- two runs of octets, alike up to a place behind which so many more stand

module _ (n : ℕ) (xs ys : List ℕ) (at : ℕ) (below-x : AreBelow n (drop at xs)) (below-y : AreBelow n (drop at ys)) (alike : take at xs ≡ take at ys) where
  -- they differ there
  pub decided_by : (r : Ordering) → r ≡ nat_cmp (spelled 0 n (drop at xs)) (spelled 0 n (drop at ys)) → MatchOrdering r (r ≡ octets_cmp xs ys) (Unit {0}) (r ≡ octets_cmp xs ys)
  decided_by Less is = sym (past at xs ys alike ∙ spelled-less n 0 (drop at xs) (drop at ys) below-y (ranked _ _ Less is))
  decided_by Equal is = tt
  decided_by Greater is =
      sym (past at xs ys alike
      ∙ nat_list_cmp_total.antisymm (drop at xs) (drop at ys)
      ∙ ap ordering_reverse (spelled-less n 0 (drop at ys) (drop at xs) below-x (ranked _ _ Greater is)))

  module _ (within-x : at + n ≤ length xs) (within-y : at + n ≤ length ys) where
    pub alike_behind : Equal ≡ nat_cmp (spelled 0 n (drop at xs)) (spelled 0 n (drop at ys)) → take (at + n) xs ≡ take (at + n) ys
    alike_behind is =
        let same = spelled-same n 0 0 (drop at xs) (drop at ys) (omega (arith, length-drop at xs)) (omega (arith, length-drop at ys)) below-x below-y (ranked _ _ Equal is) in
        more_alike at n xs ys alike same.1

    pub ended_alike : at + n ≡ min (length xs) (length ys) → Equal ≡ nat_cmp (spelled 0 n (drop at xs)) (spelled 0 n (drop at ys)) → nat_cmp (length xs) (length ys) ≡ octets_cmp xs ys
    ended_alike end is =
        sym (past (at + n) xs ys (alike_behind is)
        ∙ one_ended (drop (at + n) xs) (drop (at + n) ys) (length xs) (length ys) (at + n) (omega (arith, length-drop (at + n) xs)) (omega (arith, length-drop (at + n) ys)) end)

-- so many octets in front are the same, and what is before so many that end where one of both ends is no more than these
pub alike_front : (n : ℕ) (xs ys : List ℕ) (shared : ℕ) → AreBelow n xs → AreBelow n ys → shared ≡ min (length xs) (length ys) → n ≤ shared → shared ≤ n + n
    → Equal ≡ nat_cmp (spelled 0 n xs) (spelled 0 n ys) → take (shared - n) xs ≡ take (shared - n) ys
alike_front n xs ys shared below-x below-y is low high same =
    fewer_alike n (shared - n) xs ys (omega (arith, high)) (spelled-same n 0 0 xs ys (omega (arith, is, low)) (omega (arith, is, low)) below-x below-y (ranked _ _ Equal same)).1

-- one of two orders that aren't equal
pub decides : (r whole : Ordering) → MatchOrdering r (r ≡ whole) (Unit {0}) (r ≡ whole) → (r ≡ Equal → ⊥) → r ≡ whole
decides Less whole told not = told
decides Equal whole told not = absurd (not refl)
decides Greater whole told not = told

pub unequal : (r : Ordering) → is_ne r ≡ true → r ≡ Equal → ⊥
unequal r e is = true≢false (sym e ∙ ap is_ne is)

pub equal : (r : Ordering) → is_ne r ≡ false → r ≡ Equal
equal Less e = absurd cc
equal Equal e = refl
equal Greater e = absurd cc
