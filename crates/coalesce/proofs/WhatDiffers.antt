-- What differs between both sides of a name that waits stands at keys that changed.
use Rattle.std.proofs.Common.{◌≡◌, ◌<◌, ◌^◌, Bool, true, false, cond, not, ◌||◌, T, List, [], ◌∷◌, ◌++◌, map, length, Option, Some, None, is_some, sym, ap, subst, refl, ◌∙◌}
use Rattle.std.specs.Prelude.{filter, flat_map, option_map}
use Rattle.std.specs.List.{list_all}
use Rattle.std.specs.Ordering.{is_eq, is_lt}
use Rattle.std.specs.declared.cmp.Ordering.{Ordering}
use Rattle.std.specs.FinMap.Entries.{below_all}
use Rattle.std.proofs.lemmas.Bool.{and_from, and_parts, or_left, or_right}
use Rattle.dnsname.specs.Names.{Labels}
use Rattle.rrset.specs.Records.{key_cmp, rr_of, same_key}
use Rattle.rrset.specs.KeyedRows.{Rows, is_rising, row_at}
use Rattle.rrset.specs.RecordSet.{RecordSet, is_in_order, only, same_rows, shown_at, shown_the_same, with_values}
use Rattle.rrset.specs.declared.record.Key.{Key}
use Rattle.rrset.specs.declared.record.Shown.{Shown}
use Rattle.rrset.proofs.InOrder.{InOrder, in_order-only, same_sets}
use Rattle.rrset.proofs.OldValues.{Values, in_order-with_values}
use Rattle.rrset.proofs.Places.{and_left, and_right, and_both}
use Rattle.rrset.proofs.SameRows.{same_key-self, same_key-same, same_rows-same, same_rows-self, same_shown-self, shown_the_same-self}
use Rattle.rrset.proofs.Sets.{shown_at-only, only_same, shown_the_same-same}
use Rattle.dsotlv.specs.declared.message.Notice.{Notice}
use Rattle.dsotlv.specs.declared.message.Notice.TheVariants.{Add}
use Rattle.coalesce.specs.Laws.{is_sent_so}
use Rattle.coalesce.specs.Net.{additions, added_or_changed, is_missing}
use Rattle.coalesce.specs.Sides.{IsOneSide}
use Rattle.coalesce.specs.Steps.{additions_to, removals_behind}
use Rattle.coalesce.specs.Touched.{newly, addition_at}
use Rattle.coalesce.specs.Waiting.{OldValue, values_of}
use Rattle.coalesce.proofs.Filters.{holds, in_order-filter, kept, shown_at-filter, all_shown}
use Rattle.coalesce.proofs.Forms.{rise}
use Rattle.coalesce.proofs.Merging.{Rising, own, less, rising-values, value-first}
use Rattle.coalesce.proofs.Missing.{missing_only}
use Rattle.coalesce.proofs.OldAt.{shown_by, shown_at-old, shown_before-is}
use Rattle.coalesce.proofs.OneSide.{only_one_side}
use Rattle.coalesce.proofs.Sides.{sent, side}
use Rattle.coalesce.proofs.Steps.{additions_to-is}

abbrev before_of : Option OldValue → Option (Option Shown)
before_of o = option_map (λ (v : OldValue). v.before) o

-- the records as they were, of those that a test lets through
abbrev pub were : (Key → Bool) → Rows OldValue → RecordSet → RecordSet
were p old rows = only p (with_values (values_of old) rows)

rises : (old : Rows OldValue) → is_rising old ≡ true → Rising (values_of old)
rises old h = subst T (sym (rising-values old ∙ h)) tt

in_order-were : (p : Key → Bool) (old : Rows OldValue) (rows : RecordSet) → is_in_order rows ≡ true → InOrder (were p old rows)
in_order-were p old rows h = in_order-only p (with_values (values_of old) rows) (in_order-with_values (values_of old) rows (holds _ h))

shown_at-were : (p : Key → Bool) (q : Key) (old : Rows OldValue) (rows : RecordSet) → is_rising old ≡ true
    → shown_at q (were p old rows) ≡ cond (p q) (shown_by (before_of (row_at q old)) (shown_at q rows)) None
shown_at-were p q old rows h = shown_at-only p q (with_values (values_of old) rows) ∙ ap (λ (o : Option Shown). cond (p q) o None) (shown_before-is q old rows h)

-- ---- both sides are the same

both_ways : (a b : Bool) → (a ≡ true → b ≡ true) → (b ≡ true → a ≡ true) → a ≡ b
both_ways true b h g = sym (h refl)
both_ways false true h g = g refl
both_ways false false h g = refl

abbrev stays_so : (Key → Bool) → RecordSet → Key × OldValue → Bool
stays_so p rows v = shown_the_same v.1.before (shown_at v.0 rows) || not (p v.0)

-- a key below all others has no row
no_row : (q : Key) (old : Rows OldValue) → T (below_all key_cmp q old) → row_at q old ≡ None
no_row q [] h = refl
no_row q (e ∷ es) h =
    ap (λ (o : Ordering). cond (is_eq o) (Some e.1) (row_at q es)) (less (key_cmp q e.0) (and_left _ _ h))
    ∙ no_row q es (and_right _ _ h)

-- each key that is asked for shows what it showed before
abbrev ShowsSo : (Key → Bool) → RecordSet → Rows OldValue → Type 0
ShowsSo p rows old = (q : Key) → p q ≡ true → shown_by (before_of (row_at q old)) (shown_at q rows) ≡ shown_at q rows

shows_behind : (p : Key → Bool) (rows : RecordSet) (v : Key × OldValue) (vs : Rows OldValue) → T (is_rising (v ∷ vs)) → ShowsSo p rows (v ∷ vs) → ShowsSo p rows vs
shows_behind p rows v vs h so q pass = by (same_key q v.0) refl
  where
    by : (b : Bool) → same_key q v.0 ≡ b → shown_by (before_of (row_at q vs)) (shown_at q rows) ≡ shown_at q rows
    by true s = ap (λ (o : Option OldValue). shown_by (before_of o) (shown_at q rows)) (no_row q vs (subst (λ (k : Key). T (below_all key_cmp k vs)) (sym (same_key-same q v.0 s)) (and_left _ _ h)))
    by false s = sym (ap (λ (b : Bool). shown_by (before_of (cond b (Some v.1) (row_at q vs))) (shown_at q rows)) s) ∙ so q pass

all_stay : (p : Key → Bool) (rows : RecordSet) (old : Rows OldValue) → T (is_rising old) → ShowsSo p rows old → list_all (stays_so p rows) old ≡ true
all_stay p rows [] h so = refl
all_stay p rows (v ∷ vs) h so = and_from (stays_so p rows v) (list_all (stays_so p rows) vs) (first (p v.0) refl) (all_stay p rows vs (and_right _ _ h) (shows_behind p rows v vs h so))
  where
    first : (b : Bool) → p v.0 ≡ b → stays_so p rows v ≡ true
    first true pass =
        or_left (shown_the_same v.1.before (shown_at v.0 rows)) (not (p v.0))
        (ap (λ (o : Option Shown). shown_the_same o (shown_at v.0 rows)) (sym (ap (λ (b : Bool). shown_by (before_of (cond b (Some v.1) (row_at v.0 vs))) (shown_at v.0 rows)) (same_key-self v.0)) ∙ so v.0 pass)
        ∙ shown_the_same-self (shown_at v.0 rows))
    first false fails = or_right (shown_the_same v.1.before (shown_at v.0 rows)) (not (p v.0)) (ap not fails)

show_so : (p : Key → Bool) (rows : RecordSet) (old : Rows OldValue) → list_all (stays_so p rows) old ≡ true → ShowsSo p rows old
show_so p rows [] h q pass = refl
show_so p rows (v ∷ vs) h q pass = by (show_so p rows vs parts.1 q pass) (same_key q v.0) refl
  where
    parts : (stays_so p rows v ≡ true) × (list_all (stays_so p rows) vs ≡ true)
    parts = and_parts (stays_so p rows v) (list_all (stays_so p rows) vs) h

    same : (b : Bool) → shown_the_same v.1.before (shown_at v.0 rows) ≡ b → p v.0 ≡ true → b ≡ true
    same true s pass = refl
    same false s pass = let wrong : false ≡ true = sym (λ i. s i || not (pass i)) ∙ parts.0 in wrong

    by : shown_by (before_of (row_at q vs)) (shown_at q rows) ≡ shown_at q rows → (b : Bool) → same_key q v.0 ≡ b → shown_by (before_of (cond b (Some v.1) (row_at q vs))) (shown_at q rows) ≡ shown_at q rows
    by rest true s =
        let key = same_key-same q v.0 s in
        shown_the_same-same v.1.before (shown_at v.0 rows) (same (shown_the_same v.1.before (shown_at v.0 rows)) refl (ap p (sym key) ∙ pass))
        ∙ ap (λ (k : Key). shown_at k rows) (sym key)
    by rest false s = rest

pub same_by_keys : (p : Key → Bool) (old : Rows OldValue) (rows : RecordSet) → is_in_order rows ≡ true → is_rising old ≡ true
    → list_all (stays_so p rows) old ≡ same_rows (were p old rows) (only p rows)
same_by_keys p old rows h rising = both_ways (list_all (stays_so p rows) old) (same_rows (were p old rows) (only p rows)) there back
  where
    there : list_all (stays_so p rows) old ≡ true → same_rows (were p old rows) (only p rows) ≡ true
    there all =
        let is : were p old rows ≡ only p rows =
        only_same p (with_values (values_of old) rows) rows (in_order-with_values (values_of old) rows (holds _ h)) (holds _ h) (λ q pass. shown_before-is q old rows rising ∙ show_so p rows old all q pass) in
        ap (λ (l : RecordSet). same_rows l (only p rows)) is ∙ same_rows-self (only p rows)

    so : were p old rows ≡ only p rows → ShowsSo p rows old
    so is q pass =
        sym (ap (λ (b : Bool). cond b (shown_by (before_of (row_at q old)) (shown_at q rows)) None) pass)
        ∙ sym (shown_at-were p q old rows rising)
        ∙ ap (shown_at q) is
        ∙ shown_at-only p q rows
        ∙ ap (λ (b : Bool). cond b (shown_at q rows) None) pass

    back : same_rows (were p old rows) (only p rows) ≡ true → list_all (stays_so p rows) old ≡ true
    back same = all_stay p rows old (holds _ rising) (so (same_rows-same (were p old rows) (only p rows) same))

-- ---- what is gone

missing_same : (p : Key → Bool) (old : Rows OldValue) (rows : RecordSet) → is_in_order rows ≡ true → is_rising old ≡ true
    → filter (is_missing (only p rows)) (were p old rows) ≡ filter (is_missing (only p rows)) (were p old [])
missing_same p old rows h rising =
    same_sets (filter (is_missing (only p rows)) (were p old rows)) (filter (is_missing (only p rows)) (were p old []))
    (in_order-filter (is_missing (only p rows)) (were p old rows) (in_order-were p old rows h)) (in_order-filter (is_missing (only p rows)) (were p old []) (in_order-were p old [] refl)) (λ q.
    shown_at-filter (is_missing (only p rows)) q (were p old rows) (in_order-were p old rows h)
    ∙ ap (kept (is_missing (only p rows)) q) (shown_at-were p q old rows rising)
    ∙ by q (p q) (before_of (row_at q old)) (shown_at q rows) (shown_at-only p q rows)
    ∙ sym (ap (kept (is_missing (only p rows)) q) (shown_at-were p q old [] rising))
    ∙ sym (shown_at-filter (is_missing (only p rows)) q (were p old []) (in_order-were p old [] refl)))
  where
    by : (q : Key) (b : Bool) (o : Option (Option Shown)) (s : Option Shown) → shown_at q (only p rows) ≡ cond b s None
        → kept (is_missing (only p rows)) q (cond b (shown_by o s) None) ≡ kept (is_missing (only p rows)) q (cond b (shown_by o None) None)
    by q false o s n = refl
    by q true (Some x) s n = refl
    by q true None None n = refl
    by q true None (Some s) n = ap (λ (x : Option Shown). cond (not (is_some x)) (Some s) None) n

-- the records that keys showed are among those that were
pub gone_among : (p : Key → Bool) (old : Rows OldValue) (rows : RecordSet) → is_in_order rows ≡ true → is_rising old ≡ true → were p old [] ≡ only (λ key. is_some (row_at key old)) (were p old rows)
gone_among p old rows h rising =
    same_sets (were p old []) (only (λ key. is_some (row_at key old)) (were p old rows)) (in_order-were p old [] refl) (in_order-only (λ key. is_some (row_at key old)) (were p old rows) (in_order-were p old rows h)) (λ q.
    shown_at-were p q old [] rising
    ∙ by q (p q) (row_at q old)
    ∙ sym (ap (λ (o : Option Shown). cond (is_some (row_at q old)) o None) (shown_at-were p q old rows rising))
    ∙ sym (shown_at-only (λ key. is_some (row_at key old)) q (were p old rows)))
  where
    by : (q : Key) (b : Bool) (o : Option OldValue) → cond b (shown_by (before_of o) None) None ≡ cond (is_some o) (cond b (shown_by (before_of o) (shown_at q rows)) None) None
    by q true None = refl
    by q true (Some v) = refl
    by q false None = refl
    by q false (Some v) = refl

pub gone_side : (p : Key → Bool) (old : Rows OldValue) (rows : RecordSet) → is_in_order rows ≡ true → is_rising old ≡ true → IsOneSide (were p old rows) → IsOneSide (were p old [])
gone_side p old rows h rising one = subst IsOneSide (sym (gone_among p old rows h rising)) (only_one_side (λ key. is_some (row_at key old)) (were p old rows) one)

pub same_removals : (name : Labels) (p : Key → Bool) (old : Rows OldValue) (rows : RecordSet) → is_in_order rows ≡ true → is_rising old ≡ true → IsOneSide (were p old rows)
    → removals_behind name (only p rows) None (were p old []) ≡ removals_behind name (only p rows) None (were p old rows)
same_removals name p old rows h rising one =
    missing_only name (only p rows) (were p old []) (rise (were p old []) (gone_side p old rows h rising one))
    ∙ ap (removals_behind name (only p rows) None) (sym (missing_same p old rows h rising))
    ∙ sym (missing_only name (only p rows) (were p old rows) (rise (were p old rows) one))

-- ---- what came

abbrev pub shows_newly : (Key → Bool) → RecordSet → Key → OldValue → Option Shown
shows_newly p rows key v = cond (p key) (newly v.before (shown_at key rows)) None

-- the record that a key shows, if any
abbrev row_of : Key → Option Shown → RecordSet
row_of key None = []
row_of key (Some shown) = (key, shown) ∷ []

abbrev came_rows : (Key → Bool) → RecordSet → Rows OldValue → RecordSet
came_rows p rows old = flat_map (λ (v : Key × OldValue). row_of v.0 (shows_newly p rows v.0 v.1)) old

-- the keys, each with what it shows newly
abbrev new_values : (Key → Bool) → RecordSet → Rows OldValue → Values
new_values p rows old = map (λ (v : Key × OldValue). (v.0, shows_newly p rows v.0 v.1)) old

below-new : (p : Key → Bool) (rows : RecordSet) (key : Key) (old : Rows OldValue) → T (below_all key_cmp key old) → T (below_all key_cmp key (new_values p rows old))
below-new p rows key [] h = tt
below-new p rows key (e ∷ es) h = and_both (is_lt (key_cmp key e.0)) (below_all key_cmp key (new_values p rows es)) (and_left _ _ h) (below-new p rows key es (and_right _ _ h))

rising-new : (p : Key → Bool) (rows : RecordSet) (old : Rows OldValue) → T (is_rising old) → Rising (new_values p rows old)
rising-new p rows [] h = tt
rising-new p rows (e ∷ es) h = and_both (below_all key_cmp e.0 (new_values p rows es)) (is_rising (new_values p rows es)) (below-new p rows e.0 es (and_left _ _ h)) (rising-new p rows es (and_right _ _ h))

own-is : (key : Key) (o : Option Shown) → own (key, o) ≡ row_of key o
own-is key None = refl
own-is key (Some s) = refl

flat : (p : Key → Bool) (rows : RecordSet) (old : Rows OldValue) → T (is_rising old) → with_values (new_values p rows old) [] ≡ came_rows p rows old
flat p rows [] h = refl
flat p rows (v ∷ vs) h =
    value-first (v.0, shows_newly p rows v.0 v.1) (new_values p rows vs) [] (rising-new p rows (v ∷ vs) h) tt refl
    ∙ (λ i. own-is v.0 (shows_newly p rows v.0 v.1) i ++ flat p rows vs (and_right _ _ h) i)

row_at-new : (p : Key → Bool) (rows : RecordSet) (q : Key) (old : Rows OldValue) → row_at q (new_values p rows old) ≡ option_map (shows_newly p rows q) (row_at q old)
row_at-new p rows q [] = refl
row_at-new p rows q (v ∷ vs) = by (same_key q v.0) refl (row_at-new p rows q vs)
  where
    by : (b : Bool) → same_key q v.0 ≡ b → row_at q (new_values p rows vs) ≡ option_map (shows_newly p rows q) (row_at q vs)
        → cond b (Some (shows_newly p rows v.0 v.1)) (row_at q (new_values p rows vs)) ≡ option_map (shows_newly p rows q) (cond b (Some v.1) (row_at q vs))
    by true s rest = ap (λ (k : Key). Some (shows_newly p rows k v.1)) (sym (same_key-same q v.0 s))
    by false s rest = rest

-- what wasn't shown so
abbrev is_otherwise : RecordSet → Key × Shown → Bool
is_otherwise set e = not (shown_the_same (shown_at e.0 set) (Some e.1))

came_same : (p : Key → Bool) (old : Rows OldValue) (rows : RecordSet) → is_in_order rows ≡ true → is_rising old ≡ true → came_rows p rows old ≡ added_or_changed (were p old rows) (only p rows)
came_same p old rows h rising =
    sym (flat p rows old (holds _ rising))
    ∙ same_sets (with_values (new_values p rows old) []) (added_or_changed (were p old rows) (only p rows))
    (in_order-with_values (new_values p rows old) [] tt) (in_order-filter (is_otherwise (were p old rows)) (only p rows) (in_order-only p rows (holds _ h))) (λ q.
    shown_at-old q (new_values p rows old) [] (rising-new p rows old (holds _ rising))
    ∙ ap (λ (o : Option (Option Shown)). shown_by o None) (row_at-new p rows q old)
    ∙ by q (p q) (row_at q old) (shown_at q rows) (shown_at-were p q old rows rising)
    ∙ sym (ap (kept (is_otherwise (were p old rows)) q) (shown_at-only p q rows))
    ∙ sym (shown_at-filter (is_otherwise (were p old rows)) q (only p rows) (in_order-only p rows (holds _ h))))
  where
    turned : (b : Bool) (s : Shown) → cond b None (Some s) ≡ cond (not b) (Some s) None
    turned true s = refl
    turned false s = refl

    by : (q : Key) (b : Bool) (o : Option OldValue) (s : Option Shown) → shown_at q (were p old rows) ≡ cond b (shown_by (before_of o) s) None
        → shown_by (option_map (λ (v : OldValue). cond b (newly v.before s) None) o) None ≡ kept (is_otherwise (were p old rows)) q (cond b s None)
    by q false None s is = refl
    by q false (Some v) s is = refl
    by q true None None is = refl
    by q true None (Some s) is = sym (ap (λ (o : Option Shown). cond (not (shown_the_same o (Some s))) (Some s) None) is ∙ ap (λ (b : Bool). cond (not b) (Some s) None) (same_shown-self s))
    by q true (Some v) None is = refl
    by q true (Some v) (Some s) is = turned (shown_the_same v.before (Some s)) s ∙ sym (ap (λ (o : Option Shown). cond (not (shown_the_same o (Some s))) (Some s) None) is)

-- what is told of them
abbrev pub came_told : (Key → Bool) → RecordSet → Rows OldValue → List Notice
came_told p rows old = flat_map (λ (v : Key × OldValue). addition_at v.0 (shows_newly p rows v.0 v.1)) old

told-is : (p : Key → Bool) (rows : RecordSet) (old : Rows OldValue) → came_told p rows old ≡ additions (came_rows p rows old)
told-is p rows [] = refl
told-is p rows (v ∷ vs) = by (shows_newly p rows v.0 v.1) (told-is p rows vs)
  where
    by : (o : Option Shown) → came_told p rows vs ≡ additions (came_rows p rows vs) → addition_at v.0 o ++ came_told p rows vs ≡ additions (row_of v.0 o ++ came_rows p rows vs)
    by None rest = rest
    by (Some s) rest = ap (λ (l : List Notice). Add (rr_of v.0 s) ∷ l) rest

pub same_additions : (p : Key → Bool) (old : Rows OldValue) (rows : RecordSet) → is_in_order rows ≡ true → is_rising old ≡ true → came_told p rows old ≡ additions_to (were p old rows) (only p rows)
same_additions p old rows h rising = told-is p rows old ∙ ap additions (came_same p old rows h rising) ∙ sym (additions_to-is (were p old rows) (only p rows))

-- what came has rdata as short as a message's
pub came_short : (p : Key → Bool) (rows : RecordSet) (key : Key) (v : OldValue) (s : Shown) → IsOneSide rows → shows_newly p rows key v ≡ Some s → length s.rdata < 2 ^ 16
came_short p rows key v s (name, one) is =
    (sent name (key, s) (all_shown (is_sent_so name) key s rows (side name rows one).sent (by (p key) (shown_at key rows) is))).size
  where
    so : (b : Bool) (x : Shown) → cond b None (Some x) ≡ Some s → Some x ≡ Some s
    so true x e = absurd cc
    so false x e = e

    by : (b : Bool) (o : Option Shown) → cond b (newly v.before o) None ≡ Some s → o ≡ Some s
    by true None e = absurd cc
    by true (Some x) e = so (shown_the_same v.before (Some x)) x e
    by false o e = absurd cc
