-- The home of a name, by the homes that lie under an apex.
use Rattle.std.proofs.Common.{◌≡◌, ℕ, ◌+◌, ◌≤◌, ◌⊎◌, inl, inr, Bool, true, false, cond, not, ◌&&◌, ◌||◌, leb, ltb, List, [], ◌∷◌, length, filter, Option, Some, None, refl, sym, ap, subst, ◌∙◌, arith, le-leb, leb-true, leb-false, ltb-true, ltb-false}
use Rattle.std.specs.List.{list_all, list_any}
use Rattle.dnsname.specs.Names.{Labels, same_name, ends_in, longest}
use Rattle.dnsname.proofs.Suffixes.{same_length, ends_in-same, ends_in-longer, ends_in-all}
use Rattle.zoneupdate.specs.Zones.{is_inside}
use Rattle.zoneupdate.specs.KeptZones.{lies_under, IsUnder}
use Rattle.zoneupdate.proofs.Filters.{same_truth, and-left, and-right, and-both, not-true, not_both}
use Rattle.zoneupdate.proofs.SomeAndAll.{all-filter, any_filter, any_more, none_all, all_itself}
use Rattle.zoneupdate.proofs.Owners.{same_lower}

-- ---- the longest of several names

abbrev pub longer_of : Labels → Option Labels → Labels
longer_of x None = x
longer_of x (Some y) = cond (ltb (length x) (length y)) y x

pub longest-cons : (x : Labels) (xs : List Labels) → longest (x ∷ xs) ≡ Some (longer_of x (longest xs))
longest-cons x xs = by (longest xs)
  where
    choice : (b : Bool) (y : Labels) → cond b (Some y) (Some x) ≡ Some (cond b y x)
    choice true y = refl
    choice false y = refl

    by : (o : Option Labels) → elim o [ None ↦ Some x | Some y ↦ cond (ltb (length x) (length y)) (Some y) (Some x) ] ≡ Some (longer_of x o)
    by None = refl
    by (Some y) = choice (ltb (length x) (length y)) y

-- what all have, the longest has
abbrev pub OfSome : (Labels → Type 0) → Option Labels → Type 0
OfSome P None = Unit {0}
OfSome P (Some x) = P x

pub longest-all : (p : Labels → Bool) (xs : List Labels) → list_all p xs ≡ true → OfSome (λ x. p x ≡ true) (longest xs)
longest-all p [] h = tt
longest-all p (x ∷ xs) h = subst (OfSome (λ x. p x ≡ true)) (sym (longest-cons x xs)) (by (longest xs) (longest-all p xs (and-right (p x) (list_all p xs) h)))
  where
    first : p x ≡ true
    first = and-left (p x) (list_all p xs) h

    choice : (b : Bool) (y : Labels) → p y ≡ true → p (cond b y x) ≡ true
    choice true y is = is
    choice false y is = first

    by : (o : Option Labels) → OfSome (λ x. p x ≡ true) o → p (longer_of x o) ≡ true
    by None is = first
    by (Some y) is = choice (ltb (length x) (length y)) y is

-- it is there, and has as many labels as one of them
abbrev pub IsAsLong : ℕ → Option Labels → Type 0
IsAsLong n None = ⊥
IsAsLong n (Some x) = n ≤ length x

pub longest-long : (n : ℕ) (xs : List Labels) → list_any (λ x. leb n (length x)) xs ≡ true → IsAsLong n (longest xs)
longest-long n [] h = absurd cc
longest-long n (x ∷ xs) h = subst (IsAsLong n) (sym (longest-cons x xs)) (by (longest xs) (leb n (length x)) refl h (longest-long n xs))
  where
    choice : (b : Bool) (y : Labels) → ltb (length x) (length y) ≡ b → (n ≤ length x) ⊎ (n ≤ length y) → n ≤ length (cond b y x)
    choice true y is (inl h) = let more = ltb-true (length x) (length y) is in omega arith
    choice true y is (inr h) = h
    choice false y is (inl h) = h
    choice false y is (inr h) = let more = ltb-false (length x) (length y) is in omega arith

    by : (o : Option Labels) (b : Bool) → leb n (length x) ≡ b → (b || list_any (λ x. leb n (length x)) xs) ≡ true → (list_any (λ x. leb n (length x)) xs ≡ true → IsAsLong n o) → n ≤ length (longer_of x o)
    by None true is h rest = leb-true n (length x) is
    by None false is h rest = absurd (rest h)
    by (Some y) true is h rest = choice (ltb (length x) (length y)) y refl (inl (leb-true n (length x) is))
    by (Some y) false is h rest = choice (ltb (length x) (length y)) y refl (inr (rest h))

-- ---- the home of a name

abbrev pub is_home_at : Labels → Option Labels → Bool
is_home_at apex None = false
is_home_at apex (Some h) = same_name h apex

pub is_inside-home : (homes : List Labels) (apex name : Labels) → is_inside homes apex name ≡ is_home_at apex (longest (filter (λ h. ends_in name h) homes))
is_inside-home homes apex name = by (longest (filter (λ h. ends_in name h) homes))
  where
    by : (o : Option Labels) → elim o [ None ↦ Bool.false | Some h ↦ same_name h apex ] ≡ is_home_at apex o
    by None = refl
    by (Some h) = refl

-- a home under the apex has more labels
pub under-longer : (apex u : Labels) → lies_under apex u ≡ true → leb (length apex + 1) (length u) ≡ true
under-longer apex u h = by (leb (length apex + 1) (length u)) refl
  where
    by : (b : Bool) → leb (length apex + 1) (length u) ≡ b → leb (length apex + 1) (length u) ≡ true
    by true is = is
    by false is =
        let short = leb-false (length apex + 1) (length u) is in
        absurd (not_both (same_name u apex) (ends_in-all u apex (and-left _ _ h) (omega arith)) (not-true _ (and-right _ _ h)))

-- a name whose home is the apex ends in it, and in no home under it
pub home-ends : (homes : List Labels) (apex name : Labels) (o : Option Labels) → longest (filter (λ h. ends_in name h) homes) ≡ o → is_home_at apex o ≡ true
    → (ends_in name apex && not (list_any (λ u. ends_in name u) (filter (lies_under apex) homes))) ≡ true
home-ends homes apex name None is h = absurd cc
home-ends homes apex name (Some h) is same = and-both _ _ ends (by (list_any (λ u. ends_in name u) (filter (lies_under apex) homes)) refl)
  where
    ends : ends_in name apex ≡ true
    ends = ends_in-same name h apex same (subst (OfSome (λ x. ends_in name x ≡ true)) is (longest-all (λ x. ends_in name x) (filter (λ x. ends_in name x) homes) (all_itself (λ x. ends_in name x) homes)))

    under_long : (u : Labels) → (lies_under apex u && ends_in name u) ≡ true → (ends_in name u && leb (length apex + 1) (length u)) ≡ true
    under_long u e = and-both (ends_in name u) (leb (length apex + 1) (length u)) (and-right (lies_under apex u) (ends_in name u) e) (under-longer apex u (and-left (lies_under apex u) (ends_in name u) e))

    by : (b : Bool) → list_any (λ u. ends_in name u) (filter (lies_under apex) homes) ≡ b → not b ≡ true
    by true some =
        let both : list_any (λ u. lies_under apex u && ends_in name u) homes ≡ true = sym (any_filter (lies_under apex) (λ u. ends_in name u) homes) ∙ some in
        let longer = any_more (λ u. lies_under apex u && ends_in name u) (λ u. ends_in name u && leb (length apex + 1) (length u)) under_long homes both in
        let long : length apex + 1 ≤ length h = subst (IsAsLong (length apex + 1)) is (longest-long (length apex + 1) (filter (λ x. ends_in name x) homes) (any_filter (λ x. ends_in name x) (λ u. leb (length apex + 1) (length u)) homes ∙ longer)) in
        let as_many : length h ≡ length apex = same_length h apex (same_lower h apex same) in
        absurd (omega arith)
    by false some = refl

-- and where it does, the apex is its home
pub ends-home : (homes : List Labels) (apex name : Labels) → list_any (same_name apex) homes ≡ true
    → (ends_in name apex && not (list_any (λ u. ends_in name u) (filter (lies_under apex) homes))) ≡ true
    → is_home_at apex (longest (filter (λ h. ends_in name h) homes)) ≡ true
ends-home homes apex name is_home e = by (longest hs) long (longest-all (λ x. ends_in name x) hs (all_itself (λ x. ends_in name x) homes)) (longest-all (λ x. not (lies_under apex x && ends_in name x)) hs (all-filter (λ x. not (lies_under apex x && ends_in name x)) (λ x. ends_in name x) homes none))
  where
    hs : List Labels
    hs = filter (λ h. ends_in name h) homes

    none : list_all (λ x. not (lies_under apex x && ends_in name x)) homes ≡ true
    none = none_all (λ x. lies_under apex x && ends_in name x) homes
        (sym (any_filter (lies_under apex) (λ u. ends_in name u) homes) ∙ not-true (list_any (λ u. ends_in name u) (filter (lies_under apex) homes)) (and-right (ends_in name apex) (not (list_any (λ u. ends_in name u) (filter (lies_under apex) homes))) e))

    as_long : (x : Labels) → same_name apex x ≡ true → (ends_in name x && leb (length apex) (length x)) ≡ true
    as_long x same =
        let as_many = same_length apex x (same_lower apex x same) in
        and-both _ _ (ends_in-same name apex x same (and-left _ _ e)) (le-leb (length apex) (length x) (omega arith))

    long : IsAsLong (length apex) (longest hs)
    long = longest-long (length apex) hs (any_filter (λ x. ends_in name x) (λ x. leb (length apex) (length x)) homes ∙ any_more (same_name apex) (λ x. ends_in name x && leb (length apex) (length x)) as_long homes is_home)

    at_home : (h : Labels) → length apex ≤ length h → ends_in name h ≡ true → not (lies_under apex h && ends_in name h) ≡ true → (b : Bool) → same_name h apex ≡ b → same_name h apex ≡ true
    at_home h more ends free true is = is
    at_home h more ends free false is =
        absurd (not_both _ (and-both _ _ (and-both _ _ (ends_in-longer name h apex ends (and-left _ _ e) more) (ap not is)) ends) (not-true _ free))

    by : (o : Option Labels) → IsAsLong (length apex) o → OfSome (λ x. ends_in name x ≡ true) o → OfSome (λ x. not (lies_under apex x && ends_in name x) ≡ true) o → is_home_at apex o ≡ true
    by None more ends free = absurd more
    by (Some h) more ends free = at_home h more ends free (same_name h apex) refl

pub is_inside-under : (homes : List Labels) (apex : Labels) (under : List Labels) → IsUnder homes apex under → (name : Labels)
    → is_inside homes apex name ≡ (ends_in name apex && not (list_any (λ u. ends_in name u) under))
is_inside-under homes apex under is name =
    same_truth (is_inside homes apex name) (ends_in name apex && not (list_any (λ u. ends_in name u) (filter (lies_under apex) homes)))
    (λ h. home-ends homes apex name (longest (filter (λ h. ends_in name h) homes)) refl (sym (is_inside-home homes apex name) ∙ h))
    (λ h. is_inside-home homes apex name ∙ ends-home homes apex name is.is_home h)
    ∙ ap (λ (us : List Labels). ends_in name apex && not (list_any (λ u. ends_in name u) us)) (sym is.are_under)
