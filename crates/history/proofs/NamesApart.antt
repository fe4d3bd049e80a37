-- Homes of several names: none of one home is a name of another, so one of them alone is the home of a name.
--     share_a_name a b      a name of one home is one of the other
--     owns homes names owner      the home of the owner is one of the names
use Rattle.std.proofs.Common.{◌≡◌, Bool, true, false, ◌||◌, List, [], ◌∷◌, ◌++◌, map, refl, sym, ap, subst, ◌∙◌}
use Rattle.std.specs.Prelude.{flat_map}
use Rattle.std.specs.List.{list_any, AllByRecursion, IsDistinct}
use Rattle.dnsname.specs.Names.{Labels, same_name}
use Rattle.zoneupdate.specs.Zones.{is_inside}
use Rattle.zoneupdate.proofs.Filters.{same_truth}
use Rattle.zoneupdate.proofs.NameHomes.{inside-one}
use Rattle.zoneupdate.proofs.Owners.{same_name-for}
use Rattle.zoneupdate.proofs.SomeAndAll.{any_same}
use Rattle.history.specs.Homes.{NamedHome, clashes}
use Rattle.history.proofs.Distinct.{all-as, all-apart, distinct-none, distinct-cons, distinct-front, none-pass, pass-none}
use Rattle.history.proofs.Together.{same_name-turned, other-name}

abbrev pub share_a_name : List Labels → List Labels → Bool
share_a_name a b = list_any (λ n. list_any (same_name n) b) a

abbrev pub owns : List Labels → List Labels → Labels → Bool
owns homes names owner = list_any (λ n. is_inside homes n owner) names

-- ---- either way

both_of : (a b : Bool) → (a || b) ≡ false → (a ≡ false) × (b ≡ false)
both_of true b e = cc
both_of false b e = (refl, e)

any-either : {X : Type 0} (p q : X → Bool) (xs : List X) → list_any (λ x. p x || q x) xs ≡ (list_any p xs || list_any q xs)
any-either p q [] = refl
any-either p q (x ∷ xs) = ap (λ b. (p x || q x) || b) (any-either p q xs) ∙ by (p x) (q x) (list_any p xs) (list_any q xs)
  where
    by : (a b c d : Bool) → ((a || b) || (c || d)) ≡ ((a || c) || (b || d))
    by true b c d = refl
    by false true true d = refl
    by false true false d = refl
    by false false c d = refl

none_any : {X : Type 0} (xs : List X) → list_any (λ x. false) xs ≡ false
none_any [] = refl
none_any (x ∷ xs) = none_any xs

pub share-turned : (a b : List Labels) → share_a_name a b ≡ share_a_name b a
share-turned [] b = sym (none_any b)
share-turned (n ∷ a) b =
    (λ i. any_same (same_name n) (λ m. same_name m n) (same_name-turned n) b i || share-turned a b i)
    ∙ sym (any-either (λ m. same_name m n) (λ m. list_any (same_name m) a) b)

-- ---- what homes that share no name are to each other

-- a name of the one is none of the other
pub other-any : (h : Labels) (own names : List Labels) → list_any (same_name h) own ≡ true → share_a_name names own ≡ false → list_any (same_name h) names ≡ false
other-any h own names is apart = pass-none (same_name h) names (all-as (λ n. list_any (same_name n) own ≡ false) (λ n. same_name h n ≡ false) (λ n none. by n (same_name h n) refl none) names (none-pass (λ n. list_any (same_name n) own) names apart))
  where
    by : (n : Labels) (b : Bool) → same_name h n ≡ b → list_any (same_name n) own ≡ false → b ≡ false
    by n true same none =
        let wrong : true ≡ false = sym is ∙ any_same (same_name h) (same_name n) (λ m. same_name-for h n m same) own ∙ none in
        absurd cc
    by n false same none = refl

-- the home of an owner is a name of one of them alone
pub owns-one : (homes a b : List Labels) (owner : Labels) → share_a_name a b ≡ false → owns homes a owner ≡ true → owns homes b owner ≡ false
owns-one homes [] b owner apart own = cc
owns-one homes (n ∷ a) b owner apart own = by (is_inside homes n owner) refl own (owns-one homes a b owner parts.1)
  where
    parts : (list_any (same_name n) b ≡ false) × (share_a_name a b ≡ false)
    parts = both_of (list_any (same_name n) b) (share_a_name a b) apart

    by : (t : Bool) → is_inside homes n owner ≡ t → (t || owns homes a owner) ≡ true → (owns homes a owner ≡ true → owns homes b owner ≡ false) → owns homes b owner ≡ false
    by true inside own rest = pass-none (λ m. is_inside homes m owner) b (all-as (λ m. same_name n m ≡ false) (λ m. is_inside homes m owner ≡ false) (λ m other. inside-one homes n m owner other inside) b (none-pass (same_name n) b parts.0))
    by false inside own rest = rest own

-- ---- homes that don't clash share no name

abbrev pub home_labels : List NamedHome → List Labels
home_labels homes = map (λ (h : NamedHome). h.0) homes

others-named : (h : NamedHome) (ys : List NamedHome) → AllByRecursion (λ y. clashes h y ≡ false) ys → list_any (same_name h.0) (home_labels ys) ≡ false
others-named h [] all = refl
others-named h (y ∷ ys) all = (λ i. other-name h y all.0 i || others-named h ys all.1 i)

share-none : (xs ys : List NamedHome) → AllByRecursion (λ x. AllByRecursion (λ y. clashes x y ≡ false) ys) xs → share_a_name (home_labels xs) (home_labels ys) ≡ false
share-none [] ys all = refl
share-none (x ∷ xs) ys all = (λ i. others-named x ys all.0 i || share-none xs ys all.1 i)

-- homes in groups, each of which is one home by several names
pub groups-apart : (groups : List (List NamedHome)) → IsDistinct clashes (flat_map (λ (g : List NamedHome). g) groups) → IsDistinct share_a_name (map home_labels groups)
groups-apart [] apart = distinct-none share_a_name
groups-apart (g ∷ groups) apart =
    let parts = distinct-front clashes g (flat_map (λ (g : List NamedHome). g) groups) apart in
    distinct-cons share_a_name (home_labels g) (map home_labels groups) (each groups parts.0) (groups-apart groups parts.1)
  where
    front : (a b : List NamedHome) → AllByRecursion (λ x. AllByRecursion (λ y. clashes x y ≡ false) (a ++ b)) g → AllByRecursion (λ x. AllByRecursion (λ y. clashes x y ≡ false) a) g
    front a b all = all-as (λ x. AllByRecursion (λ y. clashes x y ≡ false) (a ++ b)) (λ x. AllByRecursion (λ y. clashes x y ≡ false) a) (λ x h. (all-apart (λ y. clashes x y ≡ false) a b h).0) g all

    behind : (a b : List NamedHome) → AllByRecursion (λ x. AllByRecursion (λ y. clashes x y ≡ false) (a ++ b)) g → AllByRecursion (λ x. AllByRecursion (λ y. clashes x y ≡ false) b) g
    behind a b all = all-as (λ x. AllByRecursion (λ y. clashes x y ≡ false) (a ++ b)) (λ x. AllByRecursion (λ y. clashes x y ≡ false) b) (λ x h. (all-apart (λ y. clashes x y ≡ false) a b h).1) g all

    each : (gs : List (List NamedHome)) → AllByRecursion (λ x. AllByRecursion (λ y. clashes x y ≡ false) (flat_map (λ (g : List NamedHome). g) gs)) g → AllByRecursion (λ names. share_a_name (home_labels g) names ≡ false) (map home_labels gs)
    each [] all = tt
    each (h ∷ gs) all = (share-none g h (front h (flat_map (λ (g : List NamedHome). g) gs) all), each gs (behind h (flat_map (λ (g : List NamedHome). g) gs) all))
