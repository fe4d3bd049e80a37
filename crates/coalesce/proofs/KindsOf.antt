-- The kinds of a set's records, each once.
use Rattle.std.proofs.Common.{◌≡◌, ℕ, Bool, true, false, cond, ◌||◌, List, [], ◌∷◌, ◌++◌, map, sym, ◌∙◌, ap, refl}
use Rattle.std.specs.Prelude.{flat_map, ◌==◌}
use Rattle.std.specs.List.{list_any, list_all, dedup_from}
use Rattle.std.proofs.lemmas.Bool.{eqb-true, and_from}
use Rattle.std.proofs.lemmas.List.Folds.{list_any-append, list_all-append}
use Rattle.rrset.specs.RecordSet.{RecordSet}
use Rattle.rrset.specs.declared.record.Key.{Key}
use Rattle.rrset.specs.declared.record.Shown.{Shown}
use Rattle.coalesce.specs.Net.{kinds_of}

-- ---- lists

pub any-map : {X Y : Type 0} (p : Y → Bool) (f : X → Y) (xs : List X) → list_any p (map f xs) ≡ list_any (λ x. p (f x)) xs
any-map p f [] = refl
any-map p f (x ∷ xs) = ap (λ b. p (f x) || b) (any-map p f xs)

pub any-flat_map : {X Y : Type 0} (p : Y → Bool) (f : X → List Y) (xs : List X) → list_any p (flat_map f xs) ≡ list_any (λ x. list_any p (f x)) xs
any-flat_map p f [] = refl
any-flat_map p f (x ∷ xs) = list_any-append p (f x) (flat_map f xs) ∙ ap (λ b. list_any p (f x) || b) (any-flat_map p f xs)

pub any_none : {X : Type 0} (p : X → Bool) (xs : List X) → ((x : X) → p x ≡ false) → list_any p xs ≡ false
any_none p [] h = refl
any_none p (x ∷ xs) h = ap (λ b. b || list_any p xs) (h x) ∙ any_none p xs h

pub all-append : {X : Type 0} (p : X → Bool) (xs ys : List X) → list_all p xs ≡ true → list_all p ys ≡ true → list_all p (xs ++ ys) ≡ true
all-append p xs ys h g = list_all-append p xs ys ∙ and_from (list_all p xs) (list_all p ys) h g

pub all-flat_map : {X Y : Type 0} (p : Y → Bool) (f : X → List Y) (xs : List X) → ((x : X) → list_all p (f x) ≡ true) → list_all p (flat_map f xs) ≡ true
all-flat_map p f [] h = refl
all-flat_map p f (x ∷ xs) h = all-append p (f x) (flat_map f xs) (h x) (all-flat_map p f xs h)

-- ---- kinds

-- a number that stands twice is asked once
any-dedup_from : (p : ℕ → Bool) (k : ℕ) (xs : List ℕ) → list_any p (dedup_from (λ a b. a == b) k xs) ≡ (p k || list_any p xs)
any-dedup_from p k [] = refl
any-dedup_from p k (x ∷ xs) = by (x == k) refl (any-dedup_from p k xs) (any-dedup_from p x xs)
  where
    twice : (a b : Bool) → (a || b) ≡ (a || (a || b))
    twice true b = refl
    twice false b = refl

    by : (b : Bool) → (x == k) ≡ b → list_any p (dedup_from (λ a b. a == b) k xs) ≡ (p k || list_any p xs) → list_any p (dedup_from (λ a b. a == b) x xs) ≡ (p x || list_any p xs)
        → list_any p (cond b (dedup_from (λ a b. a == b) k xs) (k ∷ dedup_from (λ a b. a == b) x xs)) ≡ (p k || (p x || list_any p xs))
    by true same kept later = kept ∙ twice (p k) (list_any p xs) ∙ ap (λ n. p k || (p n || list_any p xs)) (sym (eqb-true x k same))
    by false other kept later = ap (λ b. p k || b) later

-- a test holds of one of the kinds where it holds of the kind of a record
pub any-kinds_of : (p : ℕ → Bool) (set : RecordSet) → list_any p (kinds_of set) ≡ list_any (λ (e : Key × Shown). p e.0.kind) set
any-kinds_of p [] = refl
any-kinds_of p (e ∷ es) = any-dedup_from p e.0.kind (map (λ f. f.0.kind) es) ∙ ap (λ b. p e.0.kind || b) (any-map p (λ (f : Key × Shown). f.0.kind) es)
