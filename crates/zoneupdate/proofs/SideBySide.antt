-- What the way side by side through two lists in key order finds, are the changes from one to the other.
--     Above k set      the key comes before all keys of a set
--     with_front k o set      a set with what is shown of a key put before it
use Rattle.std.proofs.Common.{◌≡◌, Bool, true, false, cond, not, T, List, [], ◌∷◌, ◌++◌, map, Option, Some, None, Ordering, Less, Equal, Greater, refl, sym, ap, subst, ◌∙◌, append_assoc}
use Rattle.std.specs.Ordering.{is_eq, is_lt, ordering_reverse}
use Rattle.std.specs.List.{AllByRecursion}
use Rattle.std.specs.FinMap.Entries.{below_all}
use Rattle.std.proofs.lemmas.List.{append-nil}
use Rattle.rrset.specs.Records.{key_cmp, same_key, same_shown}
use Rattle.rrset.specs.RecordSet.{RecordSet, put, union, shown_at, changes}
use Rattle.rrset.specs.declared.record.Key.{Key}
use Rattle.rrset.specs.declared.record.Shown.{Shown}
use Rattle.rrset.specs.declared.record.Changed.{Changed}
use Rattle.rrset.proofs.InOrder.{InOrder, in_order-union, same_sets}
use Rattle.rrset.proofs.KeyOrder.{key_cmp_total}
use Rattle.rrset.proofs.Places.{and_left, and_right, and_both, all_put}
use Rattle.rrset.proofs.SameRows.{same_key-self, same_key-same}
use Rattle.rrset.proofs.WithChanges.{same_key-turned}
use Rattle.rrset.proofs.Differences.{changed_in, changed_in-first, noted}
use Rattle.zoneupdate.specs.Differing.{comes_first, starts_with, gone, came, shown_otherwise, gone_before, from_key, at_key, behind_key, differences}
use Rattle.zoneupdate.proofs.Unions.{or_else, shown_at-union}

-- ---- a key before all keys of a set

abbrev pub Above : Key → RecordSet → Type 0
Above k set = AllByRecursion (λ e. key_cmp k e.0 ≡ Less) set

less : (r : Ordering) → T (is_lt r) → r ≡ Less
less Less h = refl
less Equal h = absurd h
less Greater h = absurd h

below_above : (k : Key) (es : RecordSet) → T (below_all key_cmp k es) → Above k es
below_above k [] h = tt
below_above k (e ∷ es) h = (less _ (and_left _ _ h), below_above k es (and_right _ _ h))

above_below : (k : Key) (es : RecordSet) → Above k es → T (below_all key_cmp k es)
above_below k [] h = tt
above_below k (e ∷ es) h = and_both _ _ (subst (λ r. T (is_lt r)) (sym h.0) tt) (above_below k es h.1)

above-rest : (e : Key × Shown) (es : RecordSet) → InOrder (e ∷ es) → Above e.0 es
above-rest e es h = below_above e.0 es (and_left _ _ h)

order-rest : (e : Key × Shown) (es : RecordSet) → InOrder (e ∷ es) → InOrder es
order-rest e es h = and_right _ _ h

above-less : (k l : Key) (es : RecordSet) → key_cmp k l ≡ Less → Above l es → Above k es
above-less k l [] before h = tt
above-less k l (e ∷ es) before h = (key_cmp_total.trans k l e.0 before h.0, above-less k l es before h.1)

above-union : (k : Key) (first second : RecordSet) → Above k first → Above k second → Above k (union first second)
above-union k first [] h g = h
above-union k first (e ∷ es) h g = above-union k (put e.0 e.1 first) es (all_put key_cmp (λ l. key_cmp k l ≡ Less) e.0 e.1 first g.0 h) g.1

shown_at-above : (k : Key) (es : RecordSet) → Above k es → shown_at k es ≡ None
shown_at-above k [] h = refl
shown_at-above k (e ∷ es) h = ap (λ r. cond (is_eq r) (Some e.1) (shown_at k es)) h.0 ∙ shown_at-above k es h.1

-- ---- what is shown of a key, before a set whose keys come behind it

abbrev pub with_front : Key → Option Shown → RecordSet → RecordSet
with_front k None set = set
with_front k (Some shown) set = (k, shown) ∷ set

shown_at-front : (q k : Key) (o : Option Shown) (set : RecordSet) → Above k set → shown_at q (with_front k o set) ≡ cond (same_key q k) o (shown_at q set)
shown_at-front q k (Some shown) set h = refl
shown_at-front q k None set h = by (same_key q k) refl
  where
    by : (b : Bool) → same_key q k ≡ b → shown_at q set ≡ cond b None (shown_at q set)
    by true e = ap (λ x. shown_at x set) (same_key-same q k e) ∙ shown_at-above k set h
    by false e = refl

in_order-front : (k : Key) (o : Option Shown) (set : RecordSet) → Above k set → InOrder set → InOrder (with_front k o set)
in_order-front k None set h order = order
in_order-front k (Some shown) set h order = and_both _ _ (above_below k set h) order

module _ (k : Key) (a b : Option Shown) (old new : RecordSet) (h : Above k old) (g : Above k new) (order : InOrder old) (order_new : InOrder new) where
  union-front : union (with_front k a old) (with_front k b new) ≡ with_front k (or_else b a) (union old new)
  union-front =
      same_sets (union (with_front k a old) (with_front k b new)) (with_front k (or_else b a) (union old new))
      (in_order-union (with_front k a old) (with_front k b new) (in_order-front k a old h order))
      (in_order-front k (or_else b a) (union old new) (above-union k old new h g) (in_order-union old new order))
      (λ q. shown_at-union q (with_front k a old) (with_front k b new) (in_order-front k b new g order_new)
      ∙ (λ i. or_else (shown_at-front q k b new g i) (shown_at-front q k a old h i))
      ∙ by (same_key q k) (shown_at q new) (shown_at q old)
      ∙ sym (shown_at-front q k (or_else b a) (union old new) (above-union k old new h g) ∙ ap (cond (same_key q k) (or_else b a)) (shown_at-union q old new order_new)))
    where
      by : (t : Bool) (x y : Option Shown) → or_else (cond t b x) (cond t a y) ≡ cond t (or_else b a) (or_else x y)
      by true x y = refl
      by false x y = refl

  apart : (l : Key) → key_cmp k l ≡ Less → same_key l k ≡ false
  apart l before = same_key-turned l k ∙ ap is_eq before

  changed_in-behind : (rows : RecordSet) → Above k rows → changed_in (with_front k a old) (with_front k b new) rows ≡ changed_in old new rows
  changed_in-behind [] above = refl
  changed_in-behind (e ∷ rows) above =
      changed_in-first (with_front k a old) (with_front k b new) e rows
      ∙ (λ i. noted e.0 ((shown_at-front e.0 k a old h ∙ ap (λ t. cond t a (shown_at e.0 old)) (apart e.0 above.0)) i) ((shown_at-front e.0 k b new g ∙ ap (λ t. cond t b (shown_at e.0 new)) (apart e.0 above.0)) i)
      ++ changed_in-behind rows above.1 i)
      ∙ sym (changed_in-first old new e rows)

  changed_in-front : (shown : Shown) → changed_in (with_front k a old) (with_front k b new) ((k, shown) ∷ union old new) ≡ noted k a b ++ changes old new
  changed_in-front shown =
      changed_in-first (with_front k a old) (with_front k b new) (k, shown) (union old new)
      ∙ (λ i. noted k ((shown_at-front k k a old h ∙ ap (λ t. cond t a (shown_at k old)) (same_key-self k)) i) ((shown_at-front k k b new g ∙ ap (λ t. cond t b (shown_at k new)) (same_key-self k)) i)
      ++ changed_in-behind (union old new) (above-union k old new h g) i)

-- the changes between two sets are what is noted of a key before all others, and the changes behind it
pub changes-front : (k : Key) (a b : Option Shown) (old new : RecordSet) → Above k old → Above k new → InOrder old → InOrder new
    → changes (with_front k a old) (with_front k b new) ≡ noted k a b ++ changes old new
changes-front k None None old new h g order order_new = refl
changes-front k (Some x) None old new h g order order_new =
    ap (changed_in (with_front k (Some x) old) new) (union-front k (Some x) None old new h g order order_new) ∙ changed_in-front k (Some x) None old new h g order order_new x
changes-front k a (Some y) old new h g order order_new =
    ap (changed_in (with_front k a old) (with_front k (Some y) new)) (union-front k a (Some y) old new h g order order_new) ∙ changed_in-front k a (Some y) old new h g order order_new y

-- ---- the way through both lists

-- a record that comes before all others is gone
gone-first : (e : Key × Shown) (es new : RecordSet) → InOrder (e ∷ es) → Above e.0 new → InOrder new → changes (e ∷ es) new ≡ gone e ∷ changes es new
gone-first e es new order above order_new = changes-front e.0 (Some e.1) None es new (above-rest e es order) above (order-rest e es order) order_new

-- a record that comes before all others is there now
came-first : (row : Key × Shown) (old new : RecordSet) → InOrder (row ∷ new) → Above row.0 old → InOrder old → changes old (row ∷ new) ≡ came row ∷ changes old new
came-first row old new order above order_old = changes-front row.0 None (Some row.1) old new above (above-rest row new order) order_old (order-rest row new order)

-- both begin with one key
both-first : (e row : Key × Shown) (old new : RecordSet) → e.0 ≡ row.0 → InOrder (e ∷ old) → InOrder (row ∷ new) → changes (e ∷ old) (row ∷ new) ≡ shown_otherwise e.1 row ++ changes old new
both-first e row old new is order order_new =
    ap (λ k. changes ((k, e.1) ∷ old) (row ∷ new)) is
    ∙ changes-front row.0 (Some e.1) (Some row.1) old new (subst (λ k. Above k old) is (above-rest e old order)) (above-rest row new order_new) (order-rest e old order) (order-rest row new order_new)
    ∙ by (same_shown e.1 row.1)
  where
    one : Changed
    one = record { key = row.0; before = Some e.1; after = Some row.1 }

    by : (b : Bool) → cond (not b) (one ∷ []) [] ++ changes old new ≡ cond b [] (one ∷ []) ++ changes old new
    by true = refl
    by false = refl

-- what comes before a key, and what stands from there on
record FromKey (key : Key) (old left : RecordSet) : Type 0 where
  order : InOrder left
  first : comes_first key left ≡ false

from_key-is : (key : Key) (old : RecordSet) → InOrder old → FromKey key old (from_key key old)
from_key-is key [] order = record { order = order; first = refl }
from_key-is key (e ∷ es) order = by (is_lt (key_cmp e.0 key)) refl (from_key-is key es (order-rest e es order))
  where
    by : (b : Bool) → is_lt (key_cmp e.0 key) ≡ b → FromKey key es (from_key key es) → FromKey key (e ∷ es) (cond b (from_key key es) (e ∷ es))
    by true is rest = record { order = rest.order; first = rest.first }
    by false is rest = record { order = order; first = is }

changes-gone : (row : Key × Shown) (old new : RecordSet) → InOrder old → InOrder (row ∷ new) → changes old (row ∷ new) ≡ gone_before row.0 old ++ changes (from_key row.0 old) (row ∷ new)
changes-gone row [] new order order_new = refl
changes-gone row (e ∷ es) new order order_new = by (is_lt (key_cmp e.0 row.0)) refl (changes-gone row es new (order-rest e es order) order_new)
  where
    by : (b : Bool) → is_lt (key_cmp e.0 row.0) ≡ b → changes es (row ∷ new) ≡ gone_before row.0 es ++ changes (from_key row.0 es) (row ∷ new)
        → changes (e ∷ es) (row ∷ new) ≡ cond b (gone e ∷ gone_before row.0 es) [] ++ changes (cond b (from_key row.0 es) (e ∷ es)) (row ∷ new)
    by true is rest =
        let before : key_cmp e.0 row.0 ≡ Less = less _ (subst T (sym is) tt) in
        gone-first e es (row ∷ new) order (before, above-less e.0 row.0 new before (above-rest row new order_new)) order_new ∙ ap (λ l. gone e ∷ l) rest
    by false is rest = refl

not-before : (r : Ordering) → is_lt r ≡ false → is_eq r ≡ false → ordering_reverse r ≡ Less
not-before Less e f = absurd cc
not-before Equal e f = absurd cc
not-before Greater e f = refl

changes-at : (row : Key × Shown) (left new : RecordSet) → InOrder left → comes_first row.0 left ≡ false → InOrder (row ∷ new) → changes left (row ∷ new) ≡ at_key row left ++ changes (behind_key row.0 left) new
changes-at row [] new order first order_new = came-first row [] new order_new tt order
changes-at row (e ∷ es) new order first order_new = by (same_key e.0 row.0) refl
  where
    by : (b : Bool) → same_key e.0 row.0 ≡ b → changes (e ∷ es) (row ∷ new) ≡ cond b (shown_otherwise e.1 row) (came row ∷ []) ++ changes (cond b es (e ∷ es)) new
    by true is = both-first e row es new (same_key-same e.0 row.0 is) order order_new
    by false is =
        let before : key_cmp row.0 e.0 ≡ Less = key_cmp_total.antisymm row.0 e.0 ∙ not-before (key_cmp e.0 row.0) first is in
        came-first row (e ∷ es) new order_new (before, above-less row.0 e.0 es before (above-rest e es order)) order

order-behind : (key : Key) (left : RecordSet) → InOrder left → InOrder (behind_key key left)
order-behind key [] order = order
order-behind key (e ∷ es) order = by (same_key e.0 key)
  where
    by : (b : Bool) → InOrder (cond b es (e ∷ es))
    by true = order-rest e es order
    by false = order

all-gone : (old : RecordSet) → InOrder old → changes old [] ≡ map gone old
all-gone [] order = refl
all-gone (e ∷ es) order = gone-first e es [] order tt tt ∙ ap (λ l. gone e ∷ l) (all-gone es (order-rest e es order))

pub differences-changes : (old new : RecordSet) → InOrder old → InOrder new → differences old new ≡ changes old new
differences-changes old [] order order_new = sym (all-gone old order)
differences-changes old (row ∷ new) order order_new =
    let from = from_key-is row.0 old order in
    let left : RecordSet = from_key row.0 old in
    ap (λ l. gone_before row.0 old ++ at_key row left ++ l) (differences-changes (behind_key row.0 left) new (order-behind row.0 left from.order) (order-rest row new order_new))
    ∙ append_assoc (gone_before row.0 old) (at_key row left) (changes (behind_key row.0 left) new)
    ∙ ap (λ l. gone_before row.0 old ++ l) (sym (changes-at row left new from.order from.first order_new))
    ∙ sym (changes-gone row old new order order_new)

-- ---- the loops

-- one record more is gone
pub gone_more : (key : Key) (row : Key × Shown) (rest after : RecordSet) (change : Changed) (out now whole : List Changed) → rest ≡ row ∷ after → comes_first key rest ≡ true → change ≡ gone row → now ≡ out ++ change ∷ []
    → out ++ gone_before key rest ≡ whole → now ++ gone_before key after ≡ whole
gone_more key row rest after change out now whole is first is_gone made so_far =
    let passes : is_lt (key_cmp row.0 key) ≡ true = sym (ap (comes_first key) is) ∙ first in
    ap (λ l. l ++ gone_before key after) (made ∙ ap (λ c. out ++ c ∷ []) is_gone)
    ∙ append_assoc out (gone row ∷ []) (gone_before key after)
    ∙ ap (λ l. out ++ l) (sym (ap (gone_before key) is ∙ ap (λ b. cond b (gone row ∷ gone_before key after) []) passes))
    ∙ so_far

pub from_more : (key : Key) (row : Key × Shown) (rest after whole : RecordSet) → rest ≡ row ∷ after → comes_first key rest ≡ true → from_key key rest ≡ whole → from_key key after ≡ whole
from_more key row rest after whole is first so_far =
    let passes : is_lt (key_cmp row.0 key) ≡ true = sym (ap (comes_first key) is) ∙ first in
    sym (ap (from_key key) is ∙ ap (λ b. cond b (from_key key after) (row ∷ after)) passes) ∙ so_far

-- no record comes before the key any more
pub gone_end : (key : Key) (rest whole_rest : RecordSet) (out whole : List Changed) → comes_first key rest ≡ false → out ++ gone_before key rest ≡ whole → from_key key rest ≡ whole_rest → (out ≡ whole) × (rest ≡ whole_rest)
gone_end key [] whole_rest out whole none so_far from = (sym (append-nil out) ∙ so_far, from)
gone_end key (e ∷ es) whole_rest out whole none so_far from = (
  sym (append-nil out) ∙ ap (λ b. out ++ cond b (gone e ∷ gone_before key es) []) (sym none) ∙ so_far,
  ap (λ b. cond b (from_key key es) (e ∷ es)) (sym none) ∙ from,
)

-- the first record has the key
pub at_first : (row e : Key × Shown) (old rest : RecordSet) (out now : List Changed) → old ≡ e ∷ rest → starts_with row.0 old ≡ true → now ≡ out ++ shown_otherwise e.1 row → (now ≡ out ++ at_key row old) × (rest ≡ behind_key row.0 old)
at_first row e old rest out now is has made =
    let same : same_key e.0 row.0 ≡ true = sym (ap (starts_with row.0) is) ∙ has in (
      made ∙ ap (λ l. out ++ l) (sym (ap (at_key row) is ∙ ap (λ b. cond b (shown_otherwise e.1 row) (came row ∷ [])) same)),
      sym (ap (behind_key row.0) is ∙ ap (λ b. cond b rest (e ∷ rest)) same),
    )

-- no record has the key
pub at_none : (row : Key × Shown) (old : RecordSet) (out now : List Changed) → starts_with row.0 old ≡ false → now ≡ out ++ came row ∷ [] → (now ≡ out ++ at_key row old) × (old ≡ behind_key row.0 old)
at_none row [] out now none made = (made, refl)
at_none row (e ∷ es) out now none made =
    (made ∙ ap (λ b. out ++ cond b (shown_otherwise e.1 row) (came row ∷ [])) (sym none), ap (λ b. cond b es (e ∷ es)) (sym none))

-- one record of the later list more
pub differences_more : (row : Key × Shown) (rest from left items more : RecordSet) (out mid now whole : List Changed) → items ≡ row ∷ more → out ++ differences rest items ≡ whole
    → (mid ≡ out ++ gone_before row.0 rest) × (from ≡ from_key row.0 rest) → (now ≡ mid ++ at_key row from) × (left ≡ behind_key row.0 from) → now ++ differences left more ≡ whole
differences_more row rest from left items more out mid now whole is so_far front at =
    let behind : RecordSet = behind_key row.0 (from_key row.0 rest) in
    let gones : List Changed = gone_before row.0 rest in
    let here : List Changed = at_key row (from_key row.0 rest) in
    (λ i. (at.0 ∙ (λ j. front.0 j ++ at_key row (front.1 j))) i ++ differences ((at.1 ∙ ap (behind_key row.0) front.1) i) more)
    ∙ ap (λ l. l ++ differences behind more) (append_assoc out gones here)
    ∙ append_assoc out (gones ++ here) (differences behind more)
    ∙ ap (λ l. out ++ differences rest l) (sym is)
    ∙ so_far
