-- The rows of an owner stand together in a list in key order.
use Rattle.std.proofs.Common.{◌≡◌, ℕ, zero, suc, ◌≤◌, Bool, true, false, cond, not, ◌&&◌, T, List, [], ◌∷◌, length, take, drop, refl, sym, ap, ◌∙◌, arith}
use Rattle.std.specs.Ordering.{is_lt, is_le, is_gt, is_eq, ordering_then, ordering_index}
use Rattle.std.specs.Cmp.{eq_by_cmp_equiv}
use Rattle.std.specs.List.{AllByRecursion, AllWithin, filter}
use Rattle.std.specs.Str.{bytes_eq}
use Rattle.std.specs.List.Sorted.{IsNonDecreasingBy, IsPartitionedBy, IsPartitionPoint}
use Rattle.std.specs.declared.cmp.Ordering.{Ordering}
use Rattle.std.specs.declared.cmp.Ordering.TheVariants.{Less, Equal, Greater}
use Rattle.std.proofs.lemmas.Cmp.{nat_list_cmp_total}
use Rattle.std.proofs.lemmas.List.Sorted.{searchable_from_sorted, IsNonDecreasingBy-drop}
use Rattle.std.proofs.lemmas.Map.Text.{is_eq-slice_cmp}
use Rattle.dnsname.specs.Names.{Labels, octets, lower, same_name}
use Rattle.rrset.specs.Records.{octets_cmp}
use Rattle.rrset.specs.KeyedRows.{Rows, is_rising, rows_of}
use Rattle.rrset.specs.Tables.{HasLowerOwner, HaveLowerOwners}
use Rattle.rrset.specs.declared.record.Key.{Key}
use Rattle.rrset.proofs.KeyOrder.{key_cmp_total}
use Rattle.rrset.proofs.Places.{sorted_by}

-- ---- a list that a test cuts in two

pub passing_front : {X : Type 0} (p : X → Bool) (xs : List X) (i : ℕ) → AllWithin (λ x. p x ≡ true) xs 0 i → AllWithin (λ x. p x ≡ false) xs i (length xs) → filter p xs ≡ take i xs
passing_front p [] zero front back = refl
passing_front p [] (suc i) front back = refl
passing_front p (x ∷ xs) zero front back =
    ap (λ (b : Bool). cond b (x ∷ filter p xs) (filter p xs)) (back zero x (omega arith) (omega arith))
    ∙ passing_front p xs zero (λ j d low high. absurd (omega arith)) (λ j d low high. back (suc j) d (omega arith) (omega arith))
passing_front p (x ∷ xs) (suc i) front back =
    ap (λ (b : Bool). cond b (x ∷ filter p xs) (filter p xs)) (front zero x (omega arith) (omega arith))
    ∙ ap (λ l. x ∷ l) (passing_front p xs i (λ j d low high. front (suc j) d (omega arith) (omega arith)) (λ j d low high. back (suc j) d (omega arith) (omega arith)))

pub failing_back : {X : Type 0} (p : X → Bool) (xs : List X) (i : ℕ) → AllWithin (λ x. p x ≡ true) xs 0 i → AllWithin (λ x. p x ≡ false) xs i (length xs) → filter (λ x. not (p x)) xs ≡ drop i xs
failing_back p [] zero front back = refl
failing_back p [] (suc i) front back = refl
failing_back p (x ∷ xs) zero front back =
    ap (λ (b : Bool). cond (not b) (x ∷ filter (λ x. not (p x)) xs) (filter (λ x. not (p x)) xs)) (back zero x (omega arith) (omega arith))
    ∙ ap (λ l. x ∷ l) (failing_back p xs zero (λ j d low high. absurd (omega arith)) (λ j d low high. back (suc j) d (omega arith) (omega arith)))
failing_back p (x ∷ xs) (suc i) front back =
    ap (λ (b : Bool). cond (not b) (x ∷ filter (λ x. not (p x)) xs) (filter (λ x. not (p x)) xs)) (front zero x (omega arith) (omega arith))
    ∙ failing_back p xs i (λ j d low high. front (suc j) d (omega arith) (omega arith)) (λ j d low high. back (suc j) d (omega arith) (omega arith))

-- what passes two tests passes a third
pub filter_both : {X : Type 0} (P : X → Type 0) (p q r : X → Bool) → ((x : X) → P x → (p x && q x) ≡ r x) → (xs : List X) → AllByRecursion P xs → filter q (filter p xs) ≡ filter r xs
filter_both P p q r both [] h = refl
filter_both {X} P p q r both (x ∷ xs) h = by (p x) (q x) refl refl (sym (both x h.0)) (filter_both P p q r both xs h.1)
  where
    by : (a b : Bool) → p x ≡ a → q x ≡ b → r x ≡ (p x && q x) → filter q (filter p xs) ≡ filter r xs → filter q (cond (p x) (x ∷ filter p xs) (filter p xs)) ≡ cond (r x) (x ∷ filter r xs) (filter r xs)
    by true true e f g rest =
        ap (λ (c : Bool). filter q (cond c (x ∷ filter p xs) (filter p xs))) e
        ∙ ap (λ (c : Bool). cond c (x ∷ filter q (filter p xs)) (filter q (filter p xs))) f
        ∙ ap (λ l. x ∷ l) rest
        ∙ sym (ap (λ (c : Bool). cond c (x ∷ filter r xs) (filter r xs)) (g ∙ ap (λ (c : Bool). c && q x) e ∙ f))
    by true false e f g rest =
        ap (λ (c : Bool). filter q (cond c (x ∷ filter p xs) (filter p xs))) e
        ∙ ap (λ (c : Bool). cond c (x ∷ filter q (filter p xs)) (filter q (filter p xs))) f
        ∙ rest
        ∙ sym (ap (λ (c : Bool). cond c (x ∷ filter r xs) (filter r xs)) (g ∙ ap (λ (c : Bool). c && q x) e ∙ f))
    by false b e f g rest =
        ap (λ (c : Bool). filter q (cond c (x ∷ filter p xs) (filter p xs))) e
        ∙ rest
        ∙ sym (ap (λ (c : Bool). cond c (x ∷ filter r xs) (filter r xs)) (g ∙ ap (λ (c : Bool). c && q x) e))

-- ---- owners in a list in key order

first_at_most : (a b : Ordering) → ordering_then a b ≡ Less → is_gt a ≡ false
first_at_most Less b e = refl
first_at_most Equal b e = refl
first_at_most Greater b e = cc

less_before : (a b : Ordering) → ordering_index a ≤ ordering_index b → is_lt b ≡ true → is_lt a ≡ true
less_before Less b h e = refl
less_before Equal Less h e = absurd (omega arith)
less_before Equal Equal h e = cc
less_before Equal Greater h e = cc
less_before Greater Less h e = absurd (omega arith)
less_before Greater Equal h e = cc
less_before Greater Greater h e = cc

at_most_before : (a b : Ordering) → ordering_index a ≤ ordering_index b → is_le b ≡ true → is_le a ≡ true
at_most_before Less b h e = refl
at_most_before Equal b h e = refl
at_most_before Greater Less h e = absurd (omega arith)
at_most_before Greater Equal h e = absurd (omega arith)
at_most_before Greater Greater h e = cc

level : (r : Ordering) → (not (is_lt r) && is_le r) ≡ is_eq r
level Less = refl
level Equal = refl
level Greater = refl

module _ {X : Type 0} where
  -- how an entry's owner compares with a name in lower case
  abbrev pub owner_cmp : Labels → Key × X → Ordering
  owner_cmp name e = octets_cmp (octets e.0.owner) (octets (lower name))

  pub owners_rise : (name : Labels) (rows : Rows X) → T (is_rising rows) → IsNonDecreasingBy (λ e. ordering_index (owner_cmp name e)) rows
  owners_rise name rows h =
      searchable_from_sorted nat_list_cmp_total (λ (e : Key × X). octets e.0.owner) rows (octets (lower name))
      (sorted_by key_cmp_total octets_cmp nat_list_cmp_total (λ e. octets e.0.owner) (λ a b e. first_at_most _ _ e) rows h)

  pub less_parted : (name : Labels) (rows : Rows X) → T (is_rising rows) → IsPartitionedBy (λ e. is_lt (owner_cmp name e)) rows
  less_parted name rows h i j d low within e = less_before _ _ (owners_rise name rows h i j d low within) e

  pub at_most_parted : (name : Labels) (rows : Rows X) (begin : ℕ) → T (is_rising rows) → IsPartitionedBy (λ e. is_le (owner_cmp name e)) (drop begin rows)
  at_most_parted name rows begin h i j d low within e =
      at_most_before _ _ (IsNonDecreasingBy-drop (λ e. ordering_index (owner_cmp name e)) begin rows (owners_rise name rows h) i j d low within) e

  -- an owner in lower case is the name where it is neither less nor greater
  pub level_owner : (name : Labels) (e : Key × X) → HasLowerOwner e.0 → (not (is_lt (owner_cmp name e)) && is_le (owner_cmp name e)) ≡ same_name name e.0.owner
  level_owner name e low =
      level (owner_cmp name e)
      ∙ (eq_by_cmp_equiv nat_list_cmp_total).symm (octets e.0.owner) (octets (lower name))
      ∙ is_eq-slice_cmp (octets (lower name)) (octets e.0.owner)
      ∙ ap (λ (owner : Labels). bytes_eq (octets (lower name)) (octets owner)) (sym low)

  -- the rows of an owner: those from the first whose owner is not less, up to the first whose owner is greater
  pub rows_of-is : (name : Labels) (rows rest found : Rows X) (begin count : ℕ) → HaveLowerOwners rows
      → IsPartitionPoint (λ e. is_lt (owner_cmp name e) ≡ true) (λ e. is_lt (owner_cmp name e) ≡ false) rows begin → rest ≡ drop begin rows
      → IsPartitionPoint (λ e. is_le (owner_cmp name e) ≡ true) (λ e. is_le (owner_cmp name e) ≡ false) rest count → found ≡ take count rest → found ≡ rows_of name rows
  rows_of-is name rows rest found begin count low before rest-is upto found-is =
      found-is
      ∙ sym (passing_front (λ e. is_le (owner_cmp name e)) rest count upto.0 upto.1)
      ∙ ap (filter (λ e. is_le (owner_cmp name e))) (rest-is ∙ sym (failing_back (λ e. is_lt (owner_cmp name e)) rows begin before.0 before.1))
      ∙ filter_both (λ e. HasLowerOwner e.0) (λ e. not (is_lt (owner_cmp name e))) (λ e. is_le (owner_cmp name e)) (λ e. same_name name e.0.owner) (λ e h. level_owner name e h) rows low
