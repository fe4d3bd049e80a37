-- One element of a list is looked at, or another one put in its place.
use Rattle.std.proofs.Common.{◌≡◌, ℕ, zero, suc, ◌+◌, ◌<◌, List, [], ◌∷◌, ◌++◌, length, get_or, set, take, drop, map, Some, Result, Ok, Err, refl, sym, ap, subst, arith}
use Rattle.std.specs.Prelude.{slice_get, IfOk}
use Rattle.std.specs.List.{AllZip}
use Rattle.push_base.specs.Cases.{changed_at}

pub same_some : {X : Type 0} (x y : X) → Some x ≡ Some y → x ≡ y
same_some x y e = cc

pub slice_get-read : {X : Type 0} (xs : List X) (i : ℕ) (d : X) → i < length xs → d ≡ get_or xs i d → slice_get xs i ≡ Some d
slice_get-read [] i d h e = absurd (omega arith)
slice_get-read (x ∷ xs) zero d h e = ap Some (sym e)
slice_get-read (x ∷ xs) (suc i) d h e = slice_get-read xs i d (omega arith) e

pub get_or-same : {X : Type 0} (xs : List X) (i : ℕ) (a b : X) → i < length xs → get_or xs i a ≡ get_or xs i b
get_or-same [] i a b h = absurd (omega arith)
get_or-same (x ∷ xs) zero a b h = refl
get_or-same (x ∷ xs) (suc i) a b h = get_or-same xs i a b (omega arith)

pub slice_get-set : {X : Type 0} (xs : List X) (i : ℕ) (x : X) → i < length xs → slice_get (set xs i x) i ≡ Some x
slice_get-set [] i x h = absurd (omega arith)
slice_get-set (y ∷ xs) zero x h = refl
slice_get-set (y ∷ xs) (suc i) x h = slice_get-set xs i x (omega arith)

pub slice_get-within : {X : Type 0} (xs : List X) (i : ℕ) (x : X) → slice_get xs i ≡ Some x → i < length xs
slice_get-within [] i x e = cc
slice_get-within (y ∷ xs) zero x e = omega arith
slice_get-within (y ∷ xs) (suc i) x e = let rest = slice_get-within xs i x e in omega arith

pub slice_get-map : {X Y : Type 0} (f : X → Y) (xs : List X) (i : ℕ) (x : X) → slice_get xs i ≡ Some x → slice_get (map f xs) i ≡ Some (f x)
slice_get-map f [] i x e = cc
slice_get-map f (y ∷ xs) zero x e = ap (λ z. Some (f z)) (same_some y x e)
slice_get-map f (y ∷ xs) (suc i) x e = slice_get-map f xs i x e

pub slice_get-front : {X : Type 0} (a b : List X) (i : ℕ) (x : X) → slice_get a i ≡ Some x → slice_get (a ++ b) i ≡ Some x
slice_get-front [] b i x e = cc
slice_get-front (y ∷ a) b zero x e = e
slice_get-front (y ∷ a) b (suc i) x e = slice_get-front a b i x e

-- the element at a place that there is
pub element_here : {X : Type 0} (xs : List X) (i : ℕ) → i < length xs → (x : X) × (slice_get xs i ≡ Some x)
element_here [] i h = absurd (omega arith)
element_here (x ∷ xs) zero h = (x, refl)
element_here (x ∷ xs) (suc i) h = element_here xs i (omega arith)

-- the element of which a projection stands at a place
pub element_at : {X Y : Type 0} (f : X → Y) (xs : List X) (i : ℕ) (y : Y) → slice_get (map f xs) i ≡ Some y → (x : X) × (slice_get xs i ≡ Some x) × (f x ≡ y)
element_at f [] i y e = cc
element_at f (x ∷ xs) zero y e = (x, refl, same_some (f x) y e)
element_at f (x ∷ xs) (suc i) y e = element_at f xs i y e

-- ---- another element in its place

-- with the same projection
pub map-kept : {X Y : Type 0} (f : X → Y) (xs : List X) (i : ℕ) (old new : X) → i < length xs → old ≡ get_or xs i old → f new ≡ f (get_or xs i old) → map f (set xs i new) ≡ map f xs
map-kept f [] i old new h is same = refl
map-kept f (x ∷ xs) zero old new h is same = ap (λ y. y ∷ map f xs) same
map-kept f (x ∷ xs) (suc i) old new h is same = ap (λ l. f x ∷ l) (map-kept f xs i old new (omega arith) is same)

-- with a changed projection
pub map-changed : {X Y : Type 0} (f : X → Y) (g : Y → Y) (xs : List X) (i : ℕ) (old new : X) → i < length xs → old ≡ get_or xs i old → f new ≡ g (f (get_or xs i old)) → map f (set xs i new) ≡ changed_at i g (map f xs)
map-changed f g [] i old new h is same = refl
map-changed f g (x ∷ xs) zero old new h is same = ap (λ y. y ∷ map f xs) same
map-changed f g (x ∷ xs) (suc i) old new h is same = ap (λ l. f x ∷ l) (map-changed f g xs i old new (omega arith) is same)

pub one_more : (i : ℕ) → i + 1 ≡ suc i
one_more i = omega arith

pub ok-as : {V E : Type 0} (P Q : V → Type 0) → ((v : V) → P v → Q v) → (r : Result V E) → IfOk r P → IfOk r Q
ok-as P Q so (Err e) h = tt
ok-as P Q so (Ok v) h = so v h

-- ---- pairs from two lists

module _ {X Y : Type 0} (R : X → Y → Type 0) where
  zip-take-suc : (xs : List X) (ys : List Y) (i : ℕ) (x : X) (y : Y) → AllZip R (take i xs) ys → slice_get xs i ≡ Some x → R x y → AllZip R (take (suc i) xs) (ys ++ y ∷ [])
  zip-take-suc [] ys i x y each at holds = cc
  zip-take-suc (z ∷ xs) [] zero x y each at holds = (subst (λ (w : X). R w y) (sym (same_some z x at)) holds, tt)
  zip-take-suc (z ∷ xs) (w ∷ ys) zero x y each at holds = absurd each
  zip-take-suc (z ∷ xs) [] (suc i) x y each at holds = absurd each
  zip-take-suc (z ∷ xs) (w ∷ ys) (suc i) x y each at holds = (each.0, zip-take-suc xs ys i x y each.1 at holds)

  -- a pair more
  pub zip-more : (xs : List X) (ys : List Y) (i : ℕ) (x : X) (y : Y) → AllZip R (take i xs) ys → slice_get xs i ≡ Some x → R x y → AllZip R (take (i + 1) xs) (ys ++ y ∷ [])
  zip-more xs ys i x y each at holds = subst (λ n. AllZip R (take n xs) (ys ++ y ∷ [])) (sym (one_more i)) (zip-take-suc xs ys i x y each at holds)

  -- the pair at the front
  pub zip-first : (xs : List X) (i : ℕ) (y : Y) (ys : List Y) → AllZip R (drop i xs) (y ∷ ys) → (x : X) × (slice_get xs i ≡ Some x) × R x y × AllZip R (drop (i + 1) xs) ys
  zip-first [] zero y ys each = absurd each
  zip-first [] (suc i) y ys each = absurd each
  zip-first (x ∷ xs) zero y ys each = (x, refl, each.0, each.1)
  zip-first (x ∷ xs) (suc i) y ys each =
      let rest = zip-first xs i y ys each in
      (rest.0, rest.1, rest.2, subst (λ n. AllZip R (drop n (x ∷ xs)) ys) (next i) rest.3)
    where
      next : (i : ℕ) → suc (i + 1) ≡ suc i + 1
      next i = omega arith
