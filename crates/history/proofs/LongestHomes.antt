-- The longest home of a name, as it is found by going through the homes one by one.
use Rattle.std.proofs.Common.{◌≡◌, ℕ, zero, suc, ◌+◌, ◌<◌, ◌≤◌, Bool, true, false, cond, ltb, ◌||◌, List, [], ◌∷◌, ◌++◌, length, map, fold, Option, Some, None, refl, sym, ap, subst, ◌∙◌, arith, leb-true, ltb-true, ltb-false, append_assoc}
use Rattle.std.specs.Prelude.{slice_get, max}
use Rattle.std.specs.List.{list_any}
use Rattle.std.proofs.lemmas.List.{append-nil, length-append}
use Rattle.std.proofs.lemmas.List.Elements.{filter-append}
use Rattle.dnsname.specs.Names.{Labels, labels_octets, octets, ends_in, same_name, longest}
use Rattle.dnsname.proofs.Decisions.{ends_in-Decides}
use Rattle.dnsname.proofs.Endings.{octets-append, length-same}
use Rattle.dnsname.proofs.Suffixes.{ends_in-longer, same_length}
use Rattle.history.specs.Longest.{candidates, most_octets, IsLongest}
use Rattle.zoneupdate.proofs.Filters.{and-left, or-left, or-right}
use Rattle.zoneupdate.specs.KeptZones.{lies_under}
use Rattle.zoneupdate.proofs.Homes.{OfSome, longest-all, longer_of, longest-cons, under-longer}
use Rattle.zoneupdate.proofs.Owners.{same_name-itself}
use Rattle.zoneupdate.proofs.SomeAndAll.{all_itself}

-- ---- the longest of one name more

abbrev pub longer : Option Labels → Labels → Labels
longer None x = x
longer (Some y) x = cond (ltb (length y) (length x)) x y

pub longest-last : (xs : List Labels) (x : Labels) → longest (xs ++ x ∷ []) ≡ Some (longer (longest xs) x)
longest-last [] x = refl
longest-last (a ∷ xs) x =
    longest-cons a (xs ++ x ∷ []) ∙ ap (λ o. Some (longer_of a o)) (longest-last xs x)
    ∙ ap Some (by (longest xs))
    ∙ ap (λ o. Some (longer o x)) (sym (longest-cons a xs))
  where
    three : (y : Labels) (b c d : Bool) → ltb (length y) (length x) ≡ b → ltb (length a) (length x) ≡ c → ltb (length a) (length y) ≡ d
        → cond (ltb (length a) (length (cond b x y))) (cond b x y) a ≡ cond (ltb (length (cond d y a)) (length x)) x (cond d y a)
    three y true true true e f g = ap (λ t. cond t x a) f ∙ sym (ap (λ t. cond t x y) e)
    three y true true false e f g = ap (λ t. cond t x a) f ∙ sym (ap (λ t. cond t x a) f)
    three y true false true e f g = let p = ltb-true (length y) (length x) e in let q = ltb-false (length a) (length x) f in let r = ltb-true (length a) (length y) g in absurd (omega arith)
    three y true false false e f g = ap (λ t. cond t x a) f ∙ sym (ap (λ t. cond t x a) f)
    three y false true true e f g = ap (λ t. cond t y a) g ∙ sym (ap (λ t. cond t x y) e)
    three y false true false e f g = let p = ltb-false (length y) (length x) e in let q = ltb-true (length a) (length x) f in let r = ltb-false (length a) (length y) g in absurd (omega arith)
    three y false false true e f g = ap (λ t. cond t y a) g ∙ sym (ap (λ t. cond t x y) e)
    three y false false false e f g = ap (λ t. cond t y a) g ∙ sym (ap (λ t. cond t x a) f)

    by : (o : Option Labels) → longer_of a (Some (longer o x)) ≡ longer (Some (longer_of a o)) x
    by None = refl
    by (Some y) = three y (ltb (length y) (length x)) (ltb (length a) (length x)) (ltb (length a) (length y)) refl refl refl

-- ---- more labels are more octets

some_octets : (front : Labels) → 0 < length front → 0 < length (labels_octets front)
some_octets [] h = absurd (omega arith)
some_octets (l ∷ ls) h = omega arith

-- where a name ends in another, it has the labels in front of it more
suffix_octets : (x y : Labels) → ends_in x y ≡ true → (front : Labels) × (length x ≡ length front + length y) × (length (octets x) ≡ length (labels_octets front) + length (octets y))
suffix_octets x y e =
    let (front, last, parts, same) = (ends_in-Decides x y).0 e in
    let long : length x ≡ length front + length last = ap (λ (n : Labels). length n) parts ∙ length-append front last in
    let as_many : length last ≡ length y = same_length last y same in
    let size : length (octets x) ≡ length (labels_octets front) + length (octets last) = ap (λ (n : Labels). length (octets n)) parts ∙ ap length (octets-append front last) ∙ length-append (labels_octets front) (octets last) in
    let same_size = length-same last y same in
    (front, omega arith, omega arith)

-- a longer suffix has more octets
pub more_octets : (name x y : Labels) → ends_in name x ≡ true → ends_in name y ≡ true → length y < length x → length (octets y) < length (octets x)
more_octets name x y e f more =
    let (front, long, size) = suffix_octets x y (ends_in-longer name x y e f (omega arith)) in
    let some = some_octets front (omega arith) in
    omega arith

pub as_many_octets : (name x y : Labels) → ends_in name x ≡ true → ends_in name y ≡ true → length x ≤ length y → length (octets x) ≤ length (octets y)
as_many_octets name x y e f few =
    let (front, long, size) = suffix_octets y x (ends_in-longer name y x f e few) in
    omega arith

-- what lies under an apex has more octets than that
pub lies-longer : (apex u : Labels) → length (octets u) ≤ length (octets apex) → lies_under apex u ≡ false
lies-longer apex u short = by (lies_under apex u) refl
  where
    by : (b : Bool) → lies_under apex u ≡ b → lies_under apex u ≡ false
    by false is = is
    by true is =
        let more = leb-true (length apex + 1) (length u) (under-longer apex u is) in
        let (front, long, size) = suffix_octets u apex (and-left _ _ is) in
        let some = some_octets front (omega arith) in
        absurd (omega arith)

-- ---- the homes so far

pub slice_get-more : {X : Type 0} (xs : List X) (i : ℕ) (x y : X) → slice_get xs i ≡ Some x → slice_get (xs ++ y ∷ []) i ≡ Some x
slice_get-more [] i x y e = cc
slice_get-more (z ∷ xs) zero x y e = e
slice_get-more (z ∷ xs) (suc i) x y e = slice_get-more xs i x y e

slice_get-last : {X : Type 0} (xs : List X) (y : X) → slice_get (xs ++ y ∷ []) (length xs) ≡ Some y
slice_get-last [] y = refl
slice_get-last (x ∷ xs) y = slice_get-last xs y

candidates-last : (name : Labels) (homes : List Labels) (x : Labels) (b : Bool) → ends_in name x ≡ b → candidates name (homes ++ x ∷ []) ≡ candidates name homes ++ cond b (x ∷ []) []
candidates-last name homes x b e = filter-append (λ (h : Labels). ends_in name h) homes (x ∷ []) ∙ ap (λ t. candidates name homes ++ cond t (x ∷ []) []) e

-- the longest home itself that the name ends in, if there is one, and how many octets it has
abbrev pub HasLongest : List Labels → Labels → Option Labels → ℕ → Type 0
HasLongest homes name None most = (longest (candidates name homes) ≡ None) × (most ≡ 0)
HasLongest homes name (Some h) most = (longest (candidates name homes) ≡ Some h) × (most ≡ length (octets h))

-- the name doesn't end in the next
pub has-other : (homes : List Labels) (name x : Labels) (o : Option Labels) (most : ℕ) → ends_in name x ≡ false → HasLongest homes name o most → HasLongest (homes ++ x ∷ []) name o most
has-other homes name x None most e (none, zero_is) = (ap longest (candidates-last name homes x false e ∙ append-nil (candidates name homes)) ∙ none, zero_is)
has-other homes name x (Some h) most e (is, size) = (ap longest (candidates-last name homes x false e ∙ append-nil (candidates name homes)) ∙ is, size)

ends : (homes : List Labels) (name h : Labels) → longest (candidates name homes) ≡ Some h → ends_in name h ≡ true
ends homes name h is = subst (OfSome (λ x. ends_in name x ≡ true)) is (longest-all (λ x. ends_in name x) (candidates name homes) (all_itself (λ x. ends_in name x) homes))

longest-next : (homes : List Labels) (name x : Labels) (o : Option Labels) → ends_in name x ≡ true → longest (candidates name homes) ≡ o → longest (candidates name (homes ++ x ∷ [])) ≡ Some (longer o x)
longest-next homes name x o e is = ap longest (candidates-last name homes x true e) ∙ longest-last (candidates name homes) x ∙ ap (λ o. Some (longer o x)) is

-- the next is longer
pub has-longer : (homes : List Labels) (name x : Labels) (o : Option Labels) (most : ℕ) → ends_in name x ≡ true → most < length (octets x) → HasLongest homes name o most → HasLongest (homes ++ x ∷ []) name (Some x) (length (octets x))
has-longer homes name x None most e more (none, zero_is) = (longest-next homes name x None e none, refl)
has-longer homes name x (Some h) most e more (found, most_is) = (longest-next homes name x (Some h) e found ∙ ap Some (by (ltb (length h) (length x)) refl), refl)
  where
    by : (b : Bool) → ltb (length h) (length x) ≡ b → cond b x h ≡ x
    by true c = refl
    by false c =
        let few = ltb-false (length h) (length x) c in
        let fewer = as_many_octets name x h e (ends homes name h found) (omega arith) in
        absurd (omega arith)

-- the next is no longer
pub has-kept : (homes : List Labels) (name x : Labels) (o : Option Labels) (most : ℕ) → ends_in name x ≡ true → length (octets x) ≤ most → HasLongest homes name o most → HasLongest (homes ++ x ∷ []) name o most
has-kept homes name x None most e few (none, zero_is) =
    let some : length (octets x) ≡ length (labels_octets x) + 1 = length-append (labels_octets x) (0 ∷ []) in
    absurd (omega arith)
has-kept homes name x (Some h) most e few (found, most_is) = (longest-next homes name x (Some h) e found ∙ ap Some (by (ltb (length h) (length x)) refl), most_is)
  where
    by : (b : Bool) → ltb (length h) (length x) ≡ b → cond b x h ≡ h
    by true c =
        let more = ltb-true (length h) (length x) c in
        let octets_more = more_octets name x h e (ends homes name h found) more in
        absurd (omega arith)
    by false c = refl

-- ---- the same with its place

pub so_far-other : (homes : List Labels) (name x : Labels) (best : Option ℕ) (most : ℕ) → ends_in name x ≡ false → IsLongest homes name best most → IsLongest (homes ++ x ∷ []) name best most
so_far-other homes name x None most e so_far = has-other homes name x None most e so_far
so_far-other homes name x (Some i) most e (h, at, is, size) = let now = has-other homes name x (Some h) most e (is, size) in (h, slice_get-more homes i h x at, now.0, now.1)

pub so_far-longer : (homes : List Labels) (name x : Labels) (best : Option ℕ) (most i size : ℕ) → ends_in name x ≡ true → most < size → size ≡ length (octets x) → i ≡ length homes → IsLongest homes name best most
    → IsLongest (homes ++ x ∷ []) name (Some i) size
so_far-longer homes name x None most i size e more is place so_far =
    let now = has-longer homes name x None most e (omega (arith, more, is)) so_far in
    (x, ap (slice_get (homes ++ x ∷ [])) place ∙ slice_get-last homes x, now.0, is)
so_far-longer homes name x (Some j) most i size e more is place (h, at, found, most_is) =
    let now = has-longer homes name x (Some h) most e (omega (arith, more, is)) (found, most_is) in
    (x, ap (slice_get (homes ++ x ∷ [])) place ∙ slice_get-last homes x, now.0, is)

pub so_far-kept : (homes : List Labels) (name x : Labels) (best : Option ℕ) (most size : ℕ) → ends_in name x ≡ true → size ≤ most → size ≡ length (octets x) → IsLongest homes name best most
    → IsLongest (homes ++ x ∷ []) name best most
so_far-kept homes name x None most size e few is so_far = has-kept homes name x None most e (omega (arith, few, is)) so_far
so_far-kept homes name x (Some j) most size e few is (h, at, found, most_is) =
    let now = has-kept homes name x (Some h) most e (omega (arith, few, is)) (found, most_is) in
    (h, slice_get-more homes j h x at, now.0, now.1)

-- ---- several homes more

-- of some homes, one has the most octets, or none has more than those before
pub data Among (name : Labels) (o : Option Labels) (most : ℕ) (names : List Labels) (now : Option Labels) (more : ℕ) : Type 0 where
  same : now ≡ o → more ≡ most → Among name o most names now more
  longer_one : (h : Labels) → now ≡ Some h → most < more → list_any (same_name h) names ≡ true → Among name o most names now more

pub record Gone (homes : List Labels) (name : Labels) (o : Option Labels) (most : ℕ) (names : List Labels) : Type 0 where
  pub now : Option Labels
  pub has : HasLongest (homes ++ names) name now (most_octets name most names)
  pub among : Among name o most names now (most_octets name most names)

-- one home in front
least-other : (name x : Labels) (least : ℕ) (names : List Labels) (b : Bool) → ends_in name x ≡ b → most_octets name least (x ∷ names) ≡ most_octets name (cond b (max least (length (octets x))) least) names
least-other name x least names true e = ap (λ b. fold max least (map (λ (h : Labels). length (octets h)) (cond b (x ∷ candidates name names) (candidates name names)))) e
least-other name x least names false e = ap (λ b. fold max least (map (λ (h : Labels). length (octets h)) (cond b (x ∷ candidates name names) (candidates name names)))) e

module _ (homes : List Labels) (name x : Labels) (names : List Labels) (o : Option Labels) (most : ℕ) where
  -- behind one home the others
  onward : (next : Option Labels) (least : ℕ) → most_octets name most (x ∷ names) ≡ most_octets name least names → Gone (homes ++ x ∷ []) name next least names
      → ((now : Option Labels) (more : ℕ) → Among name next least names now more → Among name o most (x ∷ names) now more) → Gone homes name o most (x ∷ names)
  onward next least is rest so = record {
    now = rest.now;
    has = subst (λ n. HasLongest (homes ++ x ∷ names) name rest.now n) (sym is) (subst (λ (hs : List Labels). HasLongest hs name rest.now (most_octets name least names)) (append_assoc homes (x ∷ []) names) rest.has);
    among = subst (λ n. Among name o most (x ∷ names) rest.now n) (sym is) (so rest.now (most_octets name least names) rest.among);
  }

  behind-same : (now : Option Labels) (more : ℕ) → Among name o most names now more → Among name o most (x ∷ names) now more
  behind-same now more (same is size) = same is size
  behind-same now more (longer_one h is bigger own) = longer_one h is bigger (or-right (same_name h x) (list_any (same_name h) names) own)

  behind-longer : most < length (octets x) → (now : Option Labels) (more : ℕ) → Among name (Some x) (length (octets x)) names now more → Among name o most (x ∷ names) now more
  behind-longer bigger now more (same is size) = longer_one x is (omega (arith, bigger, size)) (or-left (same_name x x) (list_any (same_name x) names) (same_name-itself x))
  behind-longer bigger now more (longer_one h is still own) = longer_one h is (omega (arith, bigger, still)) (or-right (same_name h x) (list_any (same_name h) names) own)

  one-more : (next : (now : Option Labels) (least : ℕ) → HasLongest (homes ++ x ∷ []) name now least → Gone (homes ++ x ∷ []) name now least names) → HasLongest homes name o most → Gone homes name o most (x ∷ names)
  one-more next has = by (ends_in name x) refl
    where
      size : ℕ
      size = length (octets x)

      by-size : (t : Bool) → ltb most size ≡ t → ends_in name x ≡ true → Gone homes name o most (x ∷ names)
      by-size true more e =
          let bigger = ltb-true most size more in
          let greater : max most size ≡ size = omega arith in
          onward (Some x) size (least-other name x most names true e ∙ ap (λ n. most_octets name n names) greater) (next (Some x) size (has-longer homes name x o most e bigger has)) (behind-longer bigger)
      by-size false more e =
          let few = ltb-false most size more in
          let greater : max most size ≡ most = omega arith in
          onward o most (least-other name x most names true e ∙ ap (λ n. most_octets name n names) greater) (next o most (has-kept homes name x o most e few has)) behind-same

      by : (b : Bool) → ends_in name x ≡ b → Gone homes name o most (x ∷ names)
      by true e = by-size (ltb most size) refl e
      by false e = onward o most (least-other name x most names false e) (next o most (has-other homes name x o most e has)) behind-same

pub go-on : (homes names : List Labels) (name : Labels) (o : Option Labels) (most : ℕ) → HasLongest homes name o most → Gone homes name o most names
go-on homes [] name o most has = record { now = o; has = subst (λ (hs : List Labels). HasLongest hs name o most) (sym (append-nil homes)) has; among = same refl refl }
go-on homes (x ∷ names) name o most has = one-more homes name x names o most (λ now least next. go-on (homes ++ x ∷ []) names name now least next) has
