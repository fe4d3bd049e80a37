-- Homes that may stand together: no two clash, whichever kind is put first, and one more may be added.
use Rattle.std.proofs.Common.{◌≡◌, ℕ, ◌≤◌, Bool, true, false, cond, not, ◌&&◌, ◌||◌, leb, ltb, List, [], ◌∷◌, ◌++◌, length, filter, Option, Some, None, refl, sym, ap, subst, ◌∙◌, append_assoc, ltb-false}
use Rattle.std.specs.Prelude.{is_none, position, option_map, if◌then◌else◌}
use Rattle.std.specs.List.{AllByRecursion, IsDistinct}
use Rattle.std.proofs.lemmas.List.{append-nil}
use Rattle.std.proofs.lemmas.Map.Keys.{IsDistinct-IsPermutation}
use Rattle.push_base.specs.Limits.{max_home_octets}
use Rattle.dnsname.specs.Names.{Labels, octets, same_name, ends_in}
use Rattle.zoneupdate.proofs.Filters.{and-left, and-right, same_truth}
use Rattle.zoneupdate.proofs.Owners.{same_name-back}
use Rattle.history.specs.Homes.{NamedHome, same_kind, is_of_link, clashes, name_fault, home_fault, max_zones}
use Rattle.history.specs.Plans.{were_added, may_stand_together}
use Rattle.history.specs.AtHome.{homes_in}
use Rattle.history.specs.Laws.{NamesStandApart}
use Rattle.history.specs.declared.entry.HomeFault.{HomeFault}
use Rattle.history.specs.declared.entry.HomeFault.TheVariants.{Many, Long, Clash}
use Rattle.history.proofs.Distinct.{all-as, all-fail, all-permuted, distinct-none, distinct-last}
use Rattle.history.proofs.Positions.{none_from}

-- ---- one more home

pub same_name-turned : (a b : Labels) → same_name a b ≡ same_name b a
same_name-turned a b = same_truth (same_name a b) (same_name b a) (same_name-back a b) (same_name-back b a)

pub were_added-more : (before homes : List NamedHome) (new : NamedHome) → were_added before (homes ++ new ∷ []) ≡ (were_added before homes && is_none (home_fault (before ++ homes) new))
were_added-more before [] new = by (is_none (home_fault before new)) ∙ ap (λ hs. is_none (home_fault hs new)) (sym (append-nil before))
  where
    by : (b : Bool) → (b && true) ≡ b
    by true = refl
    by false = refl
were_added-more before (h ∷ homes) new =
    ap (λ b. is_none (home_fault before h) && b) (were_added-more (before ++ h ∷ []) homes new ∙ ap (λ hs. were_added (before ++ h ∷ []) homes && is_none (home_fault hs new)) (append_assoc before (h ∷ []) homes))
    ∙ by (is_none (home_fault before h)) (were_added (before ++ h ∷ []) homes) (is_none (home_fault (before ++ h ∷ homes) new))
  where
    by : (a b c : Bool) → (a && (b && c)) ≡ ((a && b) && c)
    by true b c = refl
    by false b c = refl

pub together-more : (homes : List NamedHome) (new : NamedHome) → may_stand_together homes ≡ true → home_fault homes new ≡ None → may_stand_together (homes ++ new ∷ []) ≡ true
together-more homes new h none = were_added-more [] homes new ∙ (λ i. h i && is_none (none i))

-- ---- what homes that don't clash are to each other

pub clashes-turned : (a b : NamedHome) → clashes a b ≡ clashes b a
clashes-turned a b =
    ap (λ t. t || (is_of_link b.1 && ends_in a.0 b.0) || (is_of_link a.1 && ends_in b.0 a.0)) (same_name-turned a.0 b.0)
    ∙ by (same_name b.0 a.0) (is_of_link b.1 && ends_in a.0 b.0) (is_of_link a.1 && ends_in b.0 a.0)
  where
    by : (s x y : Bool) → (s || x || y) ≡ (s || y || x)
    by true x y = refl
    by false true true = refl
    by false true false = refl
    by false false true = refl
    by false false false = refl

-- they have other names
pub other-name : (a b : NamedHome) → clashes a b ≡ false → same_name a.0 b.0 ≡ false
other-name a b e = by (same_name a.0 b.0) (is_of_link b.1 && ends_in a.0 b.0) (is_of_link a.1 && ends_in b.0 a.0) e
  where
    by : (s x y : Bool) → (s || x || y) ≡ false → s ≡ false
    by true x y e = cc
    by false x y e = refl

-- none lies under one of a link's
pub not-under : (name home : NamedHome) → is_of_link home.1 ≡ true → clashes name home ≡ false → ends_in name.0 home.0 ≡ false
not-under name home of_link e = by (same_name name.0 home.0) (is_of_link home.1) (ends_in name.0 home.0) (is_of_link name.1 && ends_in home.0 name.0) of_link e
  where
    by : (s t x y : Bool) → t ≡ true → (s || (t && x) || y) ≡ false → x ≡ false
    by true t x y is e = cc
    by false true true y is e = cc
    by false true false y is e = refl
    by false false x y is e = cc

-- ---- homes that were added stand apart

abbrev pub IsShort : NamedHome → Type 0
IsShort home = length (octets home.0) ≤ max_home_octets

-- a name that it may have
abbrev pub IsFit : NamedHome → Type 0
IsFit home = name_fault home ≡ None

-- of a home without a fault: it clashes with none, and its name is short, and one that it may have
pub record IsAdded (homes : List NamedHome) (new : NamedHome) : Type 0 where
  pub apart : AllByRecursion (λ h. clashes h new ≡ false) homes
  pub short : IsShort new
  pub fit : IsFit new

pub added-one : (homes : List NamedHome) (new : NamedHome) → is_none (home_fault homes new) ≡ true → IsAdded homes new
added-one homes new e =
    let (none, short, fit) = by (leb max_zones (length (filter (λ (h : NamedHome). same_kind h.1 new.1) homes))) (ltb max_home_octets (length (octets new.0))) (name_fault new) (position (clashes new) homes) e in
    record {
      apart = all-as (λ h. clashes new h ≡ false) (λ h. clashes h new ≡ false) (λ h apart. clashes-turned h new ∙ apart) homes (all-fail (clashes new) homes (none_from (clashes new) homes none));
      short = ltb-false max_home_octets (length (octets new.0)) short;
      fit = fit;
    }
  where
    by : (a b : Bool) (f : Option HomeFault) (o : Option ℕ) → is_none (cond a (Some Many) (cond b (Some Long) (elim f as (λ _. Option HomeFault) [ Some fault ↦ Some fault | None ↦ option_map (λ i. Clash i) o ]))) ≡ true → (o ≡ None) × (b ≡ false) × (f ≡ None)
    by true b f o e = cc
    by false true f o e = cc
    by false false (Some fault) o e = cc
    by false false None None e = (refl, refl, refl)
    by false false None (Some i) e = cc

apart-added : (before homes : List NamedHome) → were_added before homes ≡ true → IsDistinct clashes before → IsDistinct clashes (before ++ homes)
apart-added before [] h apart = subst (IsDistinct clashes) (sym (append-nil before)) apart
apart-added before (new ∷ homes) h apart =
    let first = is_none (home_fault before new) in
    let rest = were_added (before ++ new ∷ []) homes in
    subst (IsDistinct clashes) (append_assoc before (new ∷ []) homes)
    (apart-added (before ++ new ∷ []) homes (and-right first rest h) (distinct-last clashes before new apart (added-one before new (and-left first rest h)).apart))

each-added : (P : NamedHome → Type 0) → ((before : List NamedHome) (new : NamedHome) → IsAdded before new → P new) → (before homes : List NamedHome) → were_added before homes ≡ true → AllByRecursion P homes
each-added P so before [] h = tt
each-added P so before (new ∷ homes) h =
    let first = is_none (home_fault before new) in
    let rest = were_added (before ++ new ∷ []) homes in
    (so before new (added-one before new (and-left first rest h)), each-added P so (before ++ new ∷ []) homes (and-right first rest h))

pub names-apart : NamesStandApart
names-apart names state together are = record {
  apart = IsDistinct-IsPermutation clashes clashes-turned names (homes_in state) are (apart-added [] names together (distinct-none clashes));
  short = all-permuted IsShort names (homes_in state) are (each-added IsShort (λ before new added. added.short) [] names together);
  fit = all-permuted IsFit names (homes_in state) are (each-added IsFit (λ before new added. added.fit) [] names together);
}
