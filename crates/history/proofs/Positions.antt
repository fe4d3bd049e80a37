-- Where the first of a list stands that passes a test.
use Rattle.std.proofs.Common.{◌≡◌, ℕ, zero, suc, ◌+◌, Bool, true, false, cond, not, ◌&&◌, ltb, List, [], ◌∷◌, ◌++◌, length, map, Option, Some, None, refl, sym, ap, ◌∙◌, arith}
use Rattle.std.specs.Prelude.{position, find, slice_get, option_map, flat_map}
use Rattle.std.specs.List.{list_all, position_or_len}
use Rattle.push_base.specs.Cases.{changed_at}

pub ltb-suc : (a b : ℕ) → ltb (suc a) (suc b) ≡ ltb a b
ltb-suc a b = grind arith

pub ltb-zero : (b : ℕ) → ltb 0 (suc b) ≡ true
ltb-zero b = grind arith

pub position-cons : {X : Type 0} (p : X → Bool) (x : X) (xs : List X) → position p (x ∷ xs) ≡ cond (p x) (Some 0) (option_map suc (position p xs))
position-cons p x xs = by (p x)
  where
    small : (a b : ℕ) → cond (ltb (1 + a) (suc b)) (Some (1 + a)) None ≡ option_map suc (cond (ltb a b) (Some a) None)
    small a b = ap (λ n. cond (ltb n (suc b)) (Some n) None) one ∙ ap (λ t. cond t (Some (suc a)) None) (ltb-suc a b) ∙ more (ltb a b)
      where
        one : 1 + a ≡ suc a
        one = omega arith

        more : (t : Bool) → cond t (Some (suc a)) None ≡ option_map suc (cond t (Some a) None)
        more true = refl
        more false = refl

    by : (b : Bool) → cond (ltb (cond (not b) (1 + position_or_len p xs) 0) (suc (length xs))) (Some (cond (not b) (1 + position_or_len p xs) 0)) None ≡ cond b (Some 0) (option_map suc (position p xs))
    by true = ap (λ t. cond t (Some 0) None) (ltb-zero (length xs))
    by false = small (position_or_len p xs) (length xs)

-- a list with one element that passes, and none before it
pub record Found {X : Type 0} (p : X → Bool) (xs : List X) (i : ℕ) : Type 0 where
  pub before : List X
  pub here : X
  pub behind : List X
  pub parts : xs ≡ before ++ here ∷ behind
  pub place : length before ≡ i
  pub passes : p here ≡ true
  pub first : list_all (λ x. not (p x)) before ≡ true

pub none_from : {X : Type 0} (p : X → Bool) (xs : List X) → position p xs ≡ None → list_all (λ x. not (p x)) xs ≡ true
none_from p [] e = refl
none_from {X} p (x ∷ xs) e = by (p x) (position p xs) refl (none_from p xs) (sym (position-cons p x xs) ∙ e)
  where
    by : (b : Bool) (o : Option ℕ) → p x ≡ b → (o ≡ None → list_all (λ y. not (p y)) xs ≡ true) → cond b (Some 0) (option_map suc o) ≡ None → list_all (λ y. not (p y)) (x ∷ xs) ≡ true
    by true o is rest e = cc
    by false None is rest e = ap (λ b. not b && list_all (λ y. not (p y)) xs) is ∙ rest refl
    by false (Some i) is rest e = cc

pub found_from : {X : Type 0} (p : X → Bool) (xs : List X) (i : ℕ) → position p xs ≡ Some i → Found p xs i
found_from p [] i e = cc
found_from {X} p (x ∷ xs) i e = by (p x) (position p xs) refl (found_from p xs) (sym (position-cons p x xs) ∙ e)
  where
    same : (j k : ℕ) → Some j ≡ Some k → j ≡ k
    same j k e = cc

    by : (b : Bool) (o : Option ℕ) → p x ≡ b → ((j : ℕ) → o ≡ Some j → Found p xs j) → cond b (Some 0) (option_map suc o) ≡ Some i → Found p (x ∷ xs) i
    by true o is found e = record { before = []; here = x; behind = xs; parts = refl; place = same 0 i e; passes = is; first = refl }
    by false None is found e = cc
    by false (Some j) is found e =
        let rest = found j refl in
        record {
          before = x ∷ rest.before;
          here = rest.here;
          behind = rest.behind;
          parts = ap (λ l. x ∷ l) rest.parts;
          place = ap suc rest.place ∙ same (suc j) i e;
          passes = rest.passes;
          first = ap (λ b. not b && list_all (λ y. not (p y)) rest.before) is ∙ rest.first;
        }

-- where none before passes, and the next does
pub position-here : {X : Type 0} (p : X → Bool) (before : List X) (x : X) (behind : List X) → list_all (λ y. not (p y)) before ≡ true → p x ≡ true → position p (before ++ x ∷ behind) ≡ Some (length before)
position-here p [] x behind none passes = position-cons p x behind ∙ ap (λ b. cond b (Some 0) (option_map suc (position p behind))) passes
position-here {X} p (y ∷ before) x behind none passes = position-cons p y (before ++ x ∷ behind) ∙ by (p y) none (λ h. position-here p before x behind h passes)
  where
    by : (b : Bool) → (not b && list_all (λ z. not (p z)) before) ≡ true → (list_all (λ z. not (p z)) before ≡ true → position p (before ++ x ∷ behind) ≡ Some (length before)) → cond b (Some 0) (option_map suc (position p (before ++ x ∷ behind))) ≡ Some (suc (length before))
    by true none rest = cc
    by false none rest = ap (option_map suc) (rest none)

pub slice_get-here : {X : Type 0} (before : List X) (x : X) (behind : List X) → slice_get (before ++ x ∷ behind) (length before) ≡ Some x
slice_get-here [] x behind = refl
slice_get-here (y ∷ before) x behind = slice_get-here before x behind

pub slice_get-found : {X : Type 0} (p : X → Bool) (xs : List X) (i : ℕ) (f : Found p xs i) → slice_get xs i ≡ Some f.here
slice_get-found p xs i f = ap (λ l. slice_get l i) f.parts ∙ ap (slice_get (f.before ++ f.here ∷ f.behind)) (sym f.place) ∙ slice_get-here f.before f.here f.behind

pub find-here : {X : Type 0} (p : X → Bool) (before : List X) (x : X) (behind : List X) → list_all (λ y. not (p y)) before ≡ true → p x ≡ true → find p (before ++ x ∷ behind) ≡ Some x
find-here p [] x behind none passes = ap (λ b. cond b (Some x) (find p behind)) passes
find-here {X} p (y ∷ before) x behind none passes = by (p y) none (λ h. find-here p before x behind h passes)
  where
    by : (b : Bool) → (not b && list_all (λ z. not (p z)) before) ≡ true → (list_all (λ z. not (p z)) before ≡ true → find p (before ++ x ∷ behind) ≡ Some x) → cond b (Some y) (find p (before ++ x ∷ behind)) ≡ Some x
    by true none rest = cc
    by false none rest = rest none

pub find-none : {X : Type 0} (p : X → Bool) (xs : List X) → list_all (λ y. not (p y)) xs ≡ true → find p xs ≡ None
find-none p [] none = refl
find-none {X} p (y ∷ xs) none = by (p y) none (find-none p xs)
  where
    by : (b : Bool) → (not b && list_all (λ z. not (p z)) xs) ≡ true → (list_all (λ z. not (p z)) xs ≡ true → find p xs ≡ None) → cond b (Some y) (find p xs) ≡ None
    by true none rest = cc
    by false none rest = rest none

pub position-map : {X Y : Type 0} (f : X → Y) (p : Y → Bool) (xs : List X) → position p (map f xs) ≡ position (λ x. p (f x)) xs
position-map f p [] = refl
position-map f p (x ∷ xs) = position-cons p (f x) (map f xs) ∙ ap (λ o. cond (p (f x)) (Some 0) (option_map suc o)) (position-map f p xs) ∙ sym (position-cons (λ y. p (f y)) x xs)

-- ---- the element at a place

-- a list with the element that stands at a place
pub record Standing {X : Type 0} (xs : List X) (i : ℕ) (here : X) : Type 0 where
  pub before : List X
  pub behind : List X
  pub parts : xs ≡ before ++ here ∷ behind
  pub place : length before ≡ i

pub standing_at : {X : Type 0} (xs : List X) (i : ℕ) (here : X) → slice_get xs i ≡ Some here → Standing xs i here
standing_at [] i here e = cc
standing_at {X} (x ∷ xs) zero here e = record { before = []; behind = xs; parts = λ j. same x here e j ∷ xs; place = refl }
  where
    same : (a b : X) → Some a ≡ Some b → a ≡ b
    same a b e = cc
standing_at (x ∷ xs) (suc i) here e = let rest = standing_at xs i here e in record { before = x ∷ rest.before; behind = rest.behind; parts = ap (λ l. x ∷ l) rest.parts; place = ap suc rest.place }

pub changed_at-here : {X : Type 0} (f : X → X) (before : List X) (x : X) (behind : List X) → changed_at (length before) f (before ++ x ∷ behind) ≡ before ++ f x ∷ behind
changed_at-here f [] x behind = refl
changed_at-here f (y ∷ before) x behind = ap (λ l. y ∷ l) (changed_at-here f before x behind)

pub changed_at-standing : {X : Type 0} (f : X → X) (xs : List X) (i : ℕ) (here : X) (at : Standing xs i here) → changed_at i f xs ≡ at.before ++ f here ∷ at.behind
changed_at-standing f xs i here at = ap (changed_at i f) at.parts ∙ ap (λ n. changed_at n f (at.before ++ here ∷ at.behind)) (sym at.place) ∙ changed_at-here f at.before here at.behind

pub map-changed_at : {X Y : Type 0} (g : X → Y) (f : X → X) → ((x : X) → g (f x) ≡ g x) → (i : ℕ) (xs : List X) → map g (changed_at i f xs) ≡ map g xs
map-changed_at g f same i [] = refl
map-changed_at g f same zero (x ∷ xs) = ap (λ y. y ∷ map g xs) (same x)
map-changed_at g f same (suc i) (x ∷ xs) = ap (λ l. g x ∷ l) (map-changed_at g f same i xs)

pub flat_map-changed_at : {X Y : Type 0} (g : X → List Y) (f : X → X) → ((x : X) → g (f x) ≡ g x) → (i : ℕ) (xs : List X) → flat_map g (changed_at i f xs) ≡ flat_map g xs
flat_map-changed_at g f same i [] = refl
flat_map-changed_at g f same zero (x ∷ xs) = ap (λ ys. ys ++ flat_map g xs) (same x)
flat_map-changed_at g f same (suc i) (x ∷ xs) = ap (λ ys. g x ++ ys) (flat_map-changed_at g f same i xs)
