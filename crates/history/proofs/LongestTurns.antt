-- The turns of the way through homes for the longest one of a name.
use Rattle.std.proofs.Common.{◌≡◌, ℕ, ◌+◌, ◌<◌, ◌≤◌, Bool, true, false, List, [], ◌∷◌, ◌++◌, length, get_or, take, map, Option, Some, None, refl, sym, ap, subst, ◌∙◌, arith, append_assoc}
use Rattle.std.specs.Prelude.{slice_get}
use Rattle.std.specs.List.{list_any}
use Rattle.std.proofs.lemmas.List.{append-nil, length-map, length-take, map_more, take_all, take_more}
use Rattle.std.proofs.lemmas.List.Concat.{flat_map-append}
use Rattle.dnsname.specs.Names.{Labels, octets, ends_in, same_name}
use Rattle.linkcache.specs.Links.{LinkKept}
use Rattle.linkcache.specs.Rows.{names_of}
use Rattle.history.specs.Longest.{most_octets, link_names, IsLongest, IsHomeBehind}
use Rattle.history.proofs.Elements.{slice_get-read, slice_get-front}
use Rattle.history.proofs.LongestHomes.{HasLongest, Among, same, longer_one, go-on, so_far-other, so_far-longer, so_far-kept}

module _ {X : Type 0} (name_of : X → Labels) where
  -- the names of the first of some homes
  abbrev pub names : ℕ → List X → List Labels
  names i homes = map name_of (take i homes)

  pub names-next : (i : ℕ) (homes : List X) (home : X) → i < length homes → home ≡ get_or homes i home → names (i + 1) homes ≡ names i homes ++ name_of home ∷ []
  names-next i homes home h is = map_more name_of homes i home h ∙ ap (λ (x : X). names i homes ++ name_of x ∷ []) (sym is)

  pub length-names : (i : ℕ) (homes : List X) → i ≤ length homes → length (names i homes) ≡ i
  length-names i homes h =
      let size = length-take i homes in
      let same = length-map (take i homes) name_of in
      omega arith

  -- one of some homes, as it is looked at
  pub record Next (homes : List X) (i : ℕ) (home : X) (text : List ℕ) (suffix : Labels) : Type 0 where
    pub within : i < length homes
    pub is : home ≡ get_or homes i home
    pub octets : text ≡ octets suffix
    pub apex : suffix ≡ name_of home

  pub turn-longer : (homes : List X) (i : ℕ) (home : X) (text : List ℕ) (suffix other name : Labels) (best best_now : Option ℕ) (most most_now : ℕ) (b : Bool) → Next homes i home text suffix → IsLongest (names i homes) name best most
      → most < length text → b ≡ ends_in name other → b ≡ true → other ≡ name_of home → best_now ≡ Some i → most_now ≡ length text → IsLongest (names (i + 1) homes) name best_now most_now
  turn-longer homes i home text suffix other name best best_now most most_now b next so_far more ends e other_is best_is most_is =
      let x = name_of home in
      let ends_x : ends_in name x ≡ true = ap (ends_in name) (sym other_is) ∙ sym ends ∙ e in
      let size : length text ≡ length (octets x) = ap length next.octets ∙ ap (λ (n : Labels). length (octets n)) next.apex in
      let place : i ≡ length (names i homes) = let within = next.within in sym (length-names i homes (omega arith)) in
      let now = so_far-longer (names i homes) name x best most i (length text) ends_x more size place so_far in
      subst (λ hs. IsLongest hs name best_now most_now) (sym (names-next i homes home next.within next.is))
      (subst (λ o. IsLongest (names i homes ++ x ∷ []) name o most_now) (sym best_is) (subst (λ m. IsLongest (names i homes ++ x ∷ []) name (Some i) m) (sym most_is) now))

  -- the best so far stays
  stays : (homes : List X) (i : ℕ) (home : X) (name : Labels) (best best_now : Option ℕ) (most most_now : ℕ) → i < length homes → home ≡ get_or homes i home → best_now ≡ best → most_now ≡ most → IsLongest (names i homes ++ name_of home ∷ []) name best most
      → IsLongest (names (i + 1) homes) name best_now most_now
  stays homes i home name best best_now most most_now within is best_is most_is now =
      subst (λ hs. IsLongest hs name best_now most_now) (sym (names-next i homes home within is))
      (subst (λ o. IsLongest (names i homes ++ name_of home ∷ []) name o most_now) (sym best_is) (subst (λ m. IsLongest (names i homes ++ name_of home ∷ []) name best m) (sym most_is) now))

  pub turn-other : (homes : List X) (i : ℕ) (home : X) (text : List ℕ) (suffix other name : Labels) (best best_now : Option ℕ) (most most_now : ℕ) (b : Bool) → Next homes i home text suffix → IsLongest (names i homes) name best most
      → b ≡ ends_in name other → b ≡ false → other ≡ name_of home → best_now ≡ best → most_now ≡ most → IsLongest (names (i + 1) homes) name best_now most_now
  turn-other homes i home text suffix other name best best_now most most_now b next so_far ends e other_is best_is most_is =
      stays homes i home name best best_now most most_now next.within next.is best_is most_is (so_far-other (names i homes) name (name_of home) best most (ap (ends_in name) (sym other_is) ∙ sym ends ∙ e) so_far)

  pub turn-short : (homes : List X) (i : ℕ) (home : X) (text : List ℕ) (suffix name : Labels) (best best_now : Option ℕ) (most most_now : ℕ) → Next homes i home text suffix → IsLongest (names i homes) name best most
      → length text ≤ most → best_now ≡ best → most_now ≡ most → IsLongest (names (i + 1) homes) name best_now most_now
  turn-short homes i home text suffix name best best_now most most_now next so_far few best_is most_is =
      let size : length text ≡ length (octets (name_of home)) = ap length next.octets ∙ ap (λ (n : Labels). length (octets n)) next.apex in
      stays homes i home name best best_now most most_now next.within next.is best_is most_is (by (ends_in name (name_of home)) refl size)
    where
      by : (b : Bool) → ends_in name (name_of home) ≡ b → length text ≡ length (octets (name_of home)) → IsLongest (names i homes ++ name_of home ∷ []) name best most
      by true e size = so_far-kept (names i homes) name (name_of home) best most (length text) e few size so_far
      by false e size = so_far-other (names i homes) name (name_of home) best most e so_far

-- ---- links, each of several names

-- the names of the first of some links
abbrev pub names_to : ℕ → List LinkKept → List Labels
names_to i links = link_names (take i links)

-- the place among homes of the one that there is
abbrev IsPlaced : List Labels → Option ℕ → Option Labels → Type 0
IsPlaced homes None o = o ≡ None
IsPlaced homes (Some i) o = (h : Labels) × (slice_get homes i ≡ Some h) × (o ≡ Some h)

-- of homes before links, and of the names of the first links, the longest is a name of a link, or the one before
abbrev pub LinksSoFar : List Labels → List LinkKept → Labels → ℕ → Option ℕ → Option ℕ → ℕ → Type 0
LinksSoFar before links name i first None most = (o : Option Labels) × HasLongest (before ++ names_to i links) name o most × IsPlaced before first o
LinksSoFar before links name i first (Some j) most = (h : Labels) × (link : LinkKept) × HasLongest (before ++ names_to i links) name (Some h) most × (slice_get links j ≡ Some link) × (list_any (same_name h) (names_of link.state.rules) ≡ true)

pub links-begin : (before : List Labels) (links : List LinkKept) (name : Labels) (first : Option ℕ) (most : ℕ) → IsLongest before name first most → LinksSoFar before links name 0 first None most
links-begin before links name None most longest = (None, subst (λ (hs : List Labels). HasLongest hs name None most) (sym (append-nil before)) longest, refl)
links-begin before links name (Some i) most (h, at, is, size) = (Some h, subst (λ (hs : List Labels). HasLongest hs name (Some h) most) (sym (append-nil before)) (is, size), (h, at, refl))

module _ (before : List Labels) (links : List LinkKept) (name : Labels) (i : ℕ) (link : LinkKept) (within : i < length links) (link_is : link ≡ get_or links i link) where
  to-next : (before ++ names_to i links) ++ names_of link.state.rules ≡ before ++ names_to (i + 1) links
  to-next =
      append_assoc before (names_to i links) (names_of link.state.rules)
      ∙ ap (λ (ns : List Labels). before ++ ns)
      (ap (λ (ns : List Labels). names_to i links ++ ns) (sym (append-nil (names_of link.state.rules)))
      ∙ sym (flat_map-append (λ (l : LinkKept). names_of l.state.rules) (take i links) (link ∷ []))
      ∙ ap link_names (ap (λ (l : LinkKept). take i links ++ l ∷ []) link_is ∙ sym (take_more links i link within)))

  -- the longest home behind one link more
  longest-then : (o : Option Labels) (most : ℕ) → HasLongest (before ++ names_to i links) name o most
      → (now : Option Labels) × HasLongest (before ++ names_to (i + 1) links) name now (most_octets name most (names_of link.state.rules)) × Among name o most (names_of link.state.rules) now (most_octets name most (names_of link.state.rules))
  longest-then o most has =
      let gone = go-on (before ++ names_to i links) (names_of link.state.rules) name o most has in
      (gone.now, subst (λ (hs : List Labels). HasLongest hs name gone.now (most_octets name most (names_of link.state.rules))) to-next gone.has, gone.among)

  abbrev octets_here : ℕ → ℕ
  octets_here most = most_octets name most (names_of link.state.rules)

  here : slice_get links i ≡ Some link
  here = slice_get-read links i link within link_is

  found-one : (o : Option Labels) (most : ℕ) (first : Option ℕ) → HasLongest (before ++ names_to i links) name o most → most < octets_here most → LinksSoFar before links name (i + 1) first (Some i) (octets_here most)
  found-one o most first has more = let step = longest-then o most has in by step.0 step.1 step.2
    where
      by : (now : Option Labels) → HasLongest (before ++ names_to (i + 1) links) name now (octets_here most) → Among name o most (names_of link.state.rules) now (octets_here most) → LinksSoFar before links name (i + 1) first (Some i) (octets_here most)
      by now has (same is size) = absurd (omega (arith, more, size))
      by now has (longer_one h is bigger own) = (h, link, subst (λ (o : Option Labels). HasLongest (before ++ names_to (i + 1) links) name o (octets_here most)) is has, here, own)

  kept-one : (o : Option Labels) (most : ℕ) → HasLongest (before ++ names_to i links) name o most → octets_here most ≤ most → HasLongest (before ++ names_to (i + 1) links) name o most
  kept-one o most has few = let step = longest-then o most has in by step.0 step.1 step.2
    where
      by : (now : Option Labels) → HasLongest (before ++ names_to (i + 1) links) name now (octets_here most) → Among name o most (names_of link.state.rules) now (octets_here most) → HasLongest (before ++ names_to (i + 1) links) name o most
      by now has (same is size) = subst (λ (n : ℕ). HasLongest (before ++ names_to (i + 1) links) name o n) size (subst (λ (o : Option Labels). HasLongest (before ++ names_to (i + 1) links) name o (octets_here most)) is has)
      by now has (longer_one h is bigger own) = absurd (omega (arith, few, bigger))

  -- a name of the link is longer
  pub links-longer : (first found found_now : Option ℕ) (most most_now octets : ℕ) → LinksSoFar before links name i first found most → octets ≡ octets_here most → most < octets → found_now ≡ Some i → most_now ≡ octets → LinksSoFar before links name (i + 1) first found_now most_now
  links-longer first found found_now most most_now octets so_far octets_is more found_is most_is =
      subst (λ (f : Option ℕ). LinksSoFar before links name (i + 1) first f most_now) (sym found_is)
      (subst (λ (n : ℕ). LinksSoFar before links name (i + 1) first (Some i) n) (sym (most_is ∙ octets_is)) (by found so_far))
    where
      bigger : most < octets_here most
      bigger = omega (arith, more, octets_is)

      by : (found : Option ℕ) → LinksSoFar before links name i first found most → LinksSoFar before links name (i + 1) first (Some i) (octets_here most)
      by None (o, has, placed) = found-one o most first has bigger
      by (Some j) (h, l, has, at, own) = found-one (Some h) most first has bigger

  -- none of its names is
  pub links-kept : (first found found_now : Option ℕ) (most most_now octets : ℕ) → LinksSoFar before links name i first found most → octets ≡ octets_here most → octets ≤ most → found_now ≡ found → most_now ≡ most → LinksSoFar before links name (i + 1) first found_now most_now
  links-kept first found found_now most most_now octets so_far octets_is few found_is most_is =
      subst (λ (f : Option ℕ). LinksSoFar before links name (i + 1) first f most_now) (sym found_is)
      (subst (λ (n : ℕ). LinksSoFar before links name (i + 1) first found n) (sym most_is) (by found so_far))
    where
      smaller : octets_here most ≤ most
      smaller = omega (arith, few, octets_is)

      by : (found : Option ℕ) → LinksSoFar before links name i first found most → LinksSoFar before links name (i + 1) first found most
      by None (o, has, placed) = (o, kept-one o most has smaller, placed)
      by (Some j) (h, l, has, at, own) = (h, l, kept-one (Some h) most has smaller, at, own)

-- behind all links
pub links-end : (before : List Labels) (links : List LinkKept) (name : Labels) (i : ℕ) (first found : Option ℕ) (most : ℕ) → length links ≤ i → LinksSoFar before links name i first found most → IsHomeBehind before links name first found
links-end before links name i first found most all so_far = by first found so_far
  where
    whole : before ++ names_to i links ≡ before ++ link_names links
    whole = ap (λ (ls : List LinkKept). before ++ link_names ls) (take_all i links all)

    by : (first found : Option ℕ) → LinksSoFar before links name i first found most → IsHomeBehind before links name first found
    by None None (o, has, placed) = let now = subst (λ (hs : List Labels). HasLongest hs name None most) whole (subst (λ (o : Option Labels). HasLongest (before ++ names_to i links) name o most) placed has) in now.0
    by (Some k) None (o, has, (h, at, is)) =
        let now = subst (λ (hs : List Labels). HasLongest hs name (Some h) most) whole (subst (λ (o : Option Labels). HasLongest (before ++ names_to i links) name o most) is has) in
        (h, slice_get-front before (link_names links) k h at, now.0)
    by first (Some j) (h, link, has, at, own) = let now = subst (λ (hs : List Labels). HasLongest hs name (Some h) most) whole has in (h, link, now.0, at, own)
