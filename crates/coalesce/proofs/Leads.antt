-- A subscriber that applies the net of two sets to the old one has the new one: each of the three forms of a net.
use Rattle.std.proofs.Common.{◌≡◌, ℕ, Bool, true, false, cond, not, ◌&&◌, ◌||◌, List, [], ◌∷◌, ◌++◌, Option, Some, None, is_some, sym, ◌∙◌, ap, refl}
use Rattle.std.specs.Prelude.{◌==◌, nat_lt}
use Rattle.std.specs.List.{list_all, list_any}
use Rattle.std.specs.Option.{option_or}
use Rattle.std.proofs.lemmas.Bool.{eq-eqb, eqb-true, and_from, and_parts, not-false}
use Rattle.std.proofs.lemmas.List.Sums.{fold-append}
use Rattle.push_base.specs.Cases.{is_empty}
use Rattle.dnsname.specs.Names.{Labels, same_name}
use Rattle.rrset.specs.Kinds.{in_class}
use Rattle.rrset.specs.Records.{matches}
use Rattle.rrset.specs.RecordSet.{RecordSet, without, matching, shown_at, shows_its_key, same_rows, shown_the_same}
use Rattle.rrset.specs.declared.record.Key.{Key}
use Rattle.rrset.specs.declared.record.Shown.{Shown}
use Rattle.rrset.specs.declared.record.Question.{Question}
use Rattle.rrset.proofs.Sets.{shown_at-only, shown_the_same-same}
use Rattle.rrset.proofs.InOrder.{InOrder, in_order-only, same_sets}
use Rattle.rrset.proofs.SameRows.{same_rows-same}
use Rattle.dsotlv.specs.Notices.{removed_by, applied, applied_all}
use Rattle.dsotlv.specs.declared.message.Notice.{Notice}
use Rattle.dsotlv.specs.declared.message.Notice.TheVariants.{RemoveSet, RemoveClass}
use Rattle.coalesce.specs.Net.{kinds_of, removals_of_kind, additions, added_or_changed, single_changes, all_anew, all_gone, owner_of, size_of_notices, net}
use Rattle.coalesce.proofs.Filters.{all-filter, in_order-filter, shown_at-without, shown_at-filter, kept, all_shown, any_shown}
use Rattle.coalesce.proofs.AtKeys.{in_order-applied_all, shown_at-additions, is_removal, is_taken_out, shown_at-removal, shown_at-removals}
use Rattle.coalesce.proofs.KindsOf.{any-kinds_of, all-flat_map}
use Rattle.coalesce.proofs.SameNames.{same_name-swapped, same_name-joined}
use Rattle.coalesce.proofs.Removals.{TakesAll, all_removals_of_kind, removals, stays, goes}

in_order-matching : (q : Question) (set : RecordSet) → InOrder set → InOrder (matching q set)
in_order-matching q set h = in_order-only (matches q) set h

-- ---- all anew

gone : (r m : Bool) (o : Option Shown) → (is_some o ≡ true → r ≡ true) → cond r None (cond m o None) ≡ None
gone true m o e = refl
gone false true None e = refl
gone false true (Some x) e = let f : false ≡ true = e refl in cc
gone false false o e = refl

shown_at-gone : (p : Key → Bool) (q : Question) (k : Key) (old : RecordSet) → TakesAll p old → shown_at k (without p (matching q old)) ≡ None
shown_at-gone p q k old all = shown_at-without p k (matching q old) ∙ ap (λ o. cond (p k) None o) (shown_at-only (matches q) k old) ∙ gone (p k) (matches q k) (shown_at k old) (all k)

pub anew_leads : (name : Labels) (q : Question) (old new : RecordSet) → InOrder old → InOrder new → list_all shows_its_key new ≡ true
    → TakesAll (removed_by (RemoveClass name in_class)) old → applied_all (all_anew name new) q (matching q old) ≡ matching q new
anew_leads name q old new h g own all =
    same_sets _ _ (in_order-applied_all (all_anew name new) q (matching q old) (in_order-matching q old h)) (in_order-matching q new g)
    (λ k. shown_at-additions q k new (without (removed_by (RemoveClass name in_class)) (matching q old)) g own
    ∙ ap (λ o. cond (matches q k) (option_or (shown_at k new) o) o) (shown_at-gone (removed_by (RemoveClass name in_class)) q k old all)
    ∙ by (matches q k) (shown_at k new) ∙ sym (shown_at-only (matches q) k new))
  where
    by : (m : Bool) (n : Option Shown) → cond m (option_or n None) None ≡ cond m n None
    by true None = refl
    by true (Some x) = refl
    by false n = refl

-- ---- all is gone

gone_leads : (n : Notice) → is_removal n ≡ true → (q : Question) (old : RecordSet) → InOrder old → TakesAll (removed_by n) old → applied_all (n ∷ []) q (matching q old) ≡ []
gone_leads n removal q old h all =
    same_sets _ [] (in_order-applied_all (n ∷ []) q (matching q old) (in_order-matching q old h)) tt
    (λ k. shown_at-removal n removal q k (matching q old) ∙ ap (λ o. cond (removed_by n k) None o) (shown_at-only (matches q) k old) ∙ gone (removed_by n k) (matches q k) (shown_at k old) (all k))

all_gone_leads : (name : Labels) (q : Question) (old : RecordSet) (kinds : List ℕ) → InOrder old → TakesAll (removed_by (RemoveClass name in_class)) old
    → ((k : Key) → is_some (shown_at k old) ≡ true → list_any (λ kind. kind == k.kind) kinds ≡ true) → applied_all (all_gone name kinds) q (matching q old) ≡ []
all_gone_leads name q old [] h all within = gone_leads (RemoveClass name in_class) refl q old h all
all_gone_leads name q old (kind ∷ []) h all within = gone_leads (RemoveSet name in_class kind) refl q old h (λ k is. and_from _ _ (all k is) (or_false _ (within k is)))
  where
    or_false : (b : Bool) → (b || false) ≡ true → b ≡ true
    or_false true e = refl
    or_false false e = cc
all_gone_leads name q old (kind ∷ other ∷ kinds) h all within = gone_leads (RemoveClass name in_class) refl q old h all

-- the kind of a key that is shown is one of the kinds
in_kinds : (k : Key) (set : RecordSet) → is_some (shown_at k set) ≡ true → list_any (λ kind. kind == k.kind) (kinds_of set) ≡ true
in_kinds k set there = any-kinds_of (λ kind. kind == k.kind) set ∙ any_shown (λ e. e.0.kind == k.kind) k set (λ x. eq-eqb k.kind k.kind refl) there

-- ---- one record after the other

-- the old value stays or is taken out, and what is new or other comes
single_step : (m r : Bool) (o n : Option Shown) (test : Key × Shown → Bool) (k : Key)
    → ((x : Shown) → test (k, x) ≡ false → o ≡ Some x)
    → (is_some n ≡ true → r ≡ false) → (is_some o ≡ true → n ≡ None → r ≡ true)
    → cond m (option_or (kept test k n) (cond r None (cond m o None))) (cond r None (cond m o None)) ≡ cond m n None
single_step false true o n test k as_before stays goes = refl
single_step false false o n test k as_before stays goes = refl
single_step true true o None test k as_before stays goes = refl
single_step true false None None test k as_before stays goes = refl
single_step true false (Some x) None test k as_before stays goes = let e : false ≡ true = goes refl refl in cc
single_step true true o (Some x) test k as_before stays goes = let e : true ≡ false = stays refl in cc
single_step true false o (Some x) test k as_before stays goes = by (test (k, x)) (as_before x)
  where
    by : (b : Bool) → (b ≡ false → o ≡ Some x) → option_or (cond b (Some x) None) o ≡ Some x
    by true e = refl
    by false e = e refl

single_leads : (name : Labels) (q : Question) (old new : RecordSet) → InOrder old → InOrder new → list_all shows_its_key old ≡ true → list_all shows_its_key new ≡ true
    → TakesAll (removed_by (RemoveClass name in_class)) old → applied_all (single_changes name old new) q (matching q old) ≡ matching q new
single_leads name q old new h g own_old own_new all =
    same_sets _ _ (in_order-applied_all (single_changes name old new) q (matching q old) (in_order-matching q old h)) (in_order-matching q new g)
    (λ k. ap (shown_at k) (fold-append (applied q) (matching q old) (removals name old new) (additions (added_or_changed old new)))
    ∙ shown_at-additions q k (added_or_changed old new) (applied_all (removals name old new) q (matching q old)) (in_order-filter is_news new g) (all-filter shows_its_key is_news new own_new)
    ∙ ap (λ o. cond (matches q k) (option_or (shown_at k (added_or_changed old new)) o) o)
    (shown_at-removals (removals name old new) (all-flat_map is_removal (removals_of_kind name old new) (kinds_of old) (all_removals_of_kind name old new)) q k (matching q old)
    ∙ ap (λ o. cond (is_taken_out k (removals name old new)) None o) (shown_at-only (matches q) k old))
    ∙ ap (λ o. cond (matches q k) (option_or o (before k)) (before k)) (shown_at-filter is_news k new g)
    ∙ single_step (matches q k) (is_taken_out k (removals name old new)) (shown_at k old) (shown_at k new) is_news k
    (λ x same. shown_the_same-same (shown_at k old) (Some x) (not-false _ same))
    (stays name k old new own_old)
    (goes name k old new own_old all)
    ∙ sym (shown_at-only (matches q) k new))
  where
    is_news : Key × Shown → Bool
    is_news e = not (shown_the_same (shown_at e.0 old) (Some e.1))

    before : Key → Option Shown
    before k = cond (is_taken_out k (removals name old new)) None (cond (matches q k) (shown_at k old) None)

-- ---- the net

-- a record of the name and of class IN
abbrev pub is_of : Labels → Key × Shown → Bool
is_of name e = same_name name e.0.owner && e.0.class == in_class

-- a name's whole class takes all records of the name and of class IN
pub takes_its_own : (name owner : Labels) (set : RecordSet) → same_name name owner ≡ true → list_all (is_of name) set ≡ true → TakesAll (removed_by (RemoveClass owner in_class)) set
takes_its_own name owner set same h k there = by (shown_at k set) refl there
  where
    by : (o : Option Shown) → shown_at k set ≡ o → is_some o ≡ true → removed_by (RemoveClass owner in_class) k ≡ true
    by None is there = cc
    by (Some x) is there =
        let here = and_parts (same_name name k.owner) (k.class == in_class) (all_shown (is_of name) k x set h is) in
        and_from _ _ (same_name-joined owner name k.owner (same_name-swapped name owner same) here.0) (eq-eqb in_class k.class (sym (eqb-true k.class in_class here.1)))

takes_all : (name : Labels) (old new : RecordSet) → list_all (is_of name) old ≡ true → TakesAll (removed_by (RemoveClass (owner_of (old ++ new)) in_class)) old
takes_all name [] new h = λ k there. cc
takes_all name (e ∷ es) new h = takes_its_own name e.0.owner (e ∷ es) (and_parts _ _ (and_parts (is_of name e) (list_all (is_of name) es) h).0).0 h

pub is_empty-nothing : {X : Type 0} (xs : List X) → is_empty xs ≡ true → xs ≡ []
is_empty-nothing [] e = refl
is_empty-nothing (x ∷ xs) e = cc

-- The net of two sets in order, with their own keys, the old one of one name and of class IN, leads each question from the old one to the new one.
pub net_leads : (name : Labels) (q : Question) (old new : RecordSet) → InOrder old → InOrder new → list_all shows_its_key old ≡ true → list_all shows_its_key new ≡ true → list_all (is_of name) old ≡ true
    → applied_all (net old new) q (matching q old) ≡ matching q new
net_leads name q old new h g own_old own_new named =
    by (same_rows old new) refl (is_empty new) refl (nat_lt (size_of_notices (all_anew (owner_of (old ++ new)) new)) (size_of_notices (single_changes (owner_of (old ++ new)) old new)))
  where
    all : TakesAll (removed_by (RemoveClass (owner_of (old ++ new)) in_class)) old
    all = takes_all name old new named

    by : (a : Bool) → same_rows old new ≡ a → (b : Bool) → is_empty new ≡ b → (c : Bool)
        → applied_all (cond a [] (cond b (all_gone (owner_of (old ++ new)) (kinds_of old)) (cond c (all_anew (owner_of (old ++ new)) new) (single_changes (owner_of (old ++ new)) old new)))) q (matching q old) ≡ matching q new
    by true same b none c = ap (matching q) (same_rows-same old new same)
    by false other true none c = all_gone_leads (owner_of (old ++ new)) q old (kinds_of old) h all (λ k there. in_kinds k old there) ∙ sym (ap (matching q) (is_empty-nothing new none))
    by false other false some true = anew_leads (owner_of (old ++ new)) q old new h g own_new all
    by false other false some false = single_leads (owner_of (old ++ new)) q old new h g own_old own_new all
