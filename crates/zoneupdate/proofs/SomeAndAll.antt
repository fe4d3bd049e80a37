-- Whether some or all of a list pass a test.
use Rattle.std.proofs.Common.{◌≡◌, Bool, true, false, cond, not, ◌&&◌, ◌||◌, List, [], ◌∷◌, filter, refl, ap}
use Rattle.std.specs.List.{list_all, list_any}
use Rattle.zoneupdate.proofs.Filters.{not_both, and-left, and-right, and-both, or-left, or-right}

pub all-filter : {X : Type 0} (f p : X → Bool) (xs : List X) → list_all f xs ≡ true → list_all f (filter p xs) ≡ true
all-filter f p [] h = refl
all-filter {X} f p (x ∷ xs) h = by (p x) (all-filter f p xs (and-right (f x) (list_all f xs) h))
  where
    by : (b : Bool) → list_all f (filter p xs) ≡ true → list_all f (cond b (x ∷ filter p xs) (filter p xs)) ≡ true
    by true rest = and-both (f x) (list_all f (filter p xs)) (and-left (f x) (list_all f xs) h) rest
    by false rest = rest

pub any_filter : {X : Type 0} (p q : X → Bool) (xs : List X) → list_any q (filter p xs) ≡ list_any (λ x. p x && q x) xs
any_filter p q [] = refl
any_filter {X} p q (x ∷ xs) = by (p x) (any_filter p q xs)
  where
    by : (b : Bool) → list_any q (filter p xs) ≡ list_any (λ x. p x && q x) xs → list_any q (cond b (x ∷ filter p xs) (filter p xs)) ≡ ((b && q x) || list_any (λ x. p x && q x) xs)
    by true rest = ap (λ t. q x || t) rest
    by false rest = rest

pub any_more : {X : Type 0} (p q : X → Bool) → ((x : X) → p x ≡ true → q x ≡ true) → (xs : List X) → list_any p xs ≡ true → list_any q xs ≡ true
any_more p q more [] h = h
any_more {X} p q more (x ∷ xs) h = by (p x) refl h (any_more p q more xs)
  where
    by : (b : Bool) → p x ≡ b → (b || list_any p xs) ≡ true → (list_any p xs ≡ true → list_any q xs ≡ true) → (q x || list_any q xs) ≡ true
    by true is h rest = or-left (q x) (list_any q xs) (more x is)
    by false is h rest = or-right (q x) (list_any q xs) (rest h)

-- where none passes, each fails
pub none_all : {X : Type 0} (p : X → Bool) (xs : List X) → list_any p xs ≡ false → list_all (λ x. not (p x)) xs ≡ true
none_all p [] h = refl
none_all {X} p (x ∷ xs) h = by (p x) refl h (none_all p xs)
  where
    by : (b : Bool) → p x ≡ b → (b || list_any p xs) ≡ false → (list_any p xs ≡ false → list_all (λ x. not (p x)) xs ≡ true) → (not (p x) && list_all (λ x. not (p x)) xs) ≡ true
    by true is h rest = absurd (not_both true refl h)
    by false is h rest = and-both (not (p x)) (list_all (λ x. not (p x)) xs) (ap not is) (rest h)

pub all_itself : {X : Type 0} (p : X → Bool) (xs : List X) → list_all p (filter p xs) ≡ true
all_itself p [] = refl
all_itself {X} p (x ∷ xs) = by (p x) refl (all_itself p xs)
  where
    by : (b : Bool) → p x ≡ b → list_all p (filter p xs) ≡ true → list_all p (cond b (x ∷ filter p xs) (filter p xs)) ≡ true
    by true is rest = and-both (p x) (list_all p (filter p xs)) is rest
    by false is rest = rest

-- two tests that answer alike
pub any_same : {X : Type 0} (p q : X → Bool) → ((x : X) → p x ≡ q x) → (xs : List X) → list_any p xs ≡ list_any q xs
any_same p q same [] = refl
any_same p q same (x ∷ xs) = λ i. same x i || any_same p q same xs i

-- where one passes a test, and all pass another, one passes both
pub any_all : {X : Type 0} (p q : X → Bool) (b : Bool) → ((x : X) → p x ≡ true → q x ≡ true → b ≡ true) → (xs : List X) → list_any p xs ≡ true → list_all q xs ≡ true → b ≡ true
any_all p q b h [] some all = absurd cc
any_all {X} p q b h (x ∷ xs) some all = by (p x) refl some (λ e. any_all p q b h xs e (and-right (q x) (list_all q xs) all))
  where
    by : (t : Bool) → p x ≡ t → (t || list_any p xs) ≡ true → (list_any p xs ≡ true → b ≡ true) → b ≡ true
    by true is some rest = h x is (and-left (q x) (list_all q xs) all)
    by false is some rest = rest some

-- each of a part passes what follows from the part's test
pub all_follow : {X : Type 0} (p f : X → Bool) → ((x : X) → p x ≡ true → f x ≡ true) → (xs : List X) → list_all f (filter p xs) ≡ true
all_follow p f follows [] = refl
all_follow {X} p f follows (x ∷ xs) = by (p x) refl (all_follow p f follows xs)
  where
    by : (b : Bool) → p x ≡ b → list_all f (filter p xs) ≡ true → list_all f (cond b (x ∷ filter p xs) (filter p xs)) ≡ true
    by true is rest = and-both (f x) (list_all f (filter p xs)) (follows x is) rest
    by false is rest = rest

-- the same of two tests that answer alike on the part
pub all_alike : {X : Type 0} (p f g : X → Bool) → ((x : X) → p x ≡ true → f x ≡ g x) → (xs : List X) → list_all f (filter p xs) ≡ list_all g (filter p xs)
all_alike p f g alike [] = refl
all_alike {X} p f g alike (x ∷ xs) = by (p x) refl (all_alike p f g alike xs)
  where
    by : (b : Bool) → p x ≡ b → list_all f (filter p xs) ≡ list_all g (filter p xs) → list_all f (cond b (x ∷ filter p xs) (filter p xs)) ≡ list_all g (cond b (x ∷ filter p xs) (filter p xs))
    by true is rest = λ i. alike x is i && rest i
    by false is rest = rest

-- all pass where those of both parts do
pub all_parts : {X : Type 0} (p f : X → Bool) (xs : List X) → list_all f (filter p xs) ≡ true → list_all f (filter (λ x. not (p x)) xs) ≡ true → list_all f xs ≡ true
all_parts p f [] h g = refl
all_parts {X} p f (x ∷ xs) h g = by (p x) h g (all_parts p f xs)
  where
    by : (b : Bool) → list_all f (cond b (x ∷ filter p xs) (filter p xs)) ≡ true → list_all f (cond (not b) (x ∷ filter (λ x. not (p x)) xs) (filter (λ x. not (p x)) xs)) ≡ true
        → (list_all f (filter p xs) ≡ true → list_all f (filter (λ x. not (p x)) xs) ≡ true → list_all f xs ≡ true) → (f x && list_all f xs) ≡ true
    by true h g rest = and-both (f x) (list_all f xs) (and-left (f x) (list_all f (filter p xs)) h) (rest (and-right (f x) (list_all f (filter p xs)) h) g)
    by false h g rest = and-both (f x) (list_all f xs) (and-left (f x) (list_all f (filter (λ x. not (p x)) xs)) g) (rest h (and-right (f x) (list_all f (filter (λ x. not (p x)) xs)) g))
