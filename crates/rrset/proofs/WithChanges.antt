-- The changes from one set to another, made to the first, give the second.
use Rattle.std.proofs.Common.{◌≡◌, Bool, true, false, cond, not, [], ◌∷◌, map, Option, Some, None, is_some, refl, sym, ap, ◌∙◌}
use Rattle.rrset.specs.RecordSet.{RecordSet, only, without, union, shown_at, shown_the_same, changes, with_changed, with_changes}
use Rattle.rrset.specs.Records.{same_key}
use Rattle.rrset.specs.declared.record.Key.{Key}
use Rattle.rrset.specs.declared.record.Shown.{Shown}
use Rattle.rrset.specs.declared.record.Changed.{Changed}
use Rattle.rrset.proofs.Sets.{shown_at-put, shown_at-only, among_keys, unchanged}
use Rattle.rrset.proofs.InOrder.{InOrder, in_order-with_changes, same_sets}
use Rattle.rrset.proofs.Differences.{change}
use Rattle.rrset.proofs.SameRows.{same_key-self, same_key-same}

-- two tests that follow from each other answer alike
pub both_ways : (a b : Bool) → (a ≡ true → b ≡ true) → (b ≡ true → a ≡ true) → a ≡ b
both_ways true b f g = sym (f refl)
both_ways false true f g = g refl
both_ways false false f g = refl

pub same_key-turned : (k l : Key) → same_key k l ≡ same_key l k
same_key-turned k l = both_ways (same_key k l) (same_key l k) (turned k l) (turned l k)
  where
    turned : (k l : Key) → same_key k l ≡ true → same_key l k ≡ true
    turned k l e = ap (λ x. same_key x k) (sym (same_key-same k l e)) ∙ same_key-self k

-- ---- what is shown of a key after a change

pub shown_at-without : (q key : Key) (set : RecordSet) → shown_at q (without (same_key key) set) ≡ cond (same_key q key) None (shown_at q set)
shown_at-without q key set = shown_at-only (λ k. not (same_key key k)) q set ∙ ap (λ b. cond (not b) (shown_at q set) None) (same_key-turned key q) ∙ by (same_key q key)
  where
    by : (b : Bool) → cond (not b) (shown_at q set) None ≡ cond b None (shown_at q set)
    by true = refl
    by false = refl

pub shown_at-with_changed : (q : Key) (set : RecordSet) (key : Key) (before after : Option Shown)
    → shown_at q (with_changed set (change key before after)) ≡ cond (same_key q key) after (shown_at q set)
shown_at-with_changed q set key before None = shown_at-without q key set
shown_at-with_changed q set key before (Some shown) = shown_at-put q key shown set

abbrev pub change_at : RecordSet → RecordSet → Key × Shown → Changed
change_at old new e = change e.0 (shown_at e.0 old) (shown_at e.0 new)

-- changes to what a set shows, at the keys of a list
pub shown_at-with_changes : (q : Key) (old new : RecordSet) (es set : RecordSet)
    → shown_at q (with_changes (map (change_at old new) es) set) ≡ cond (is_some (shown_at q es)) (shown_at q new) (shown_at q set)
shown_at-with_changes q old new [] set = refl
shown_at-with_changes q old new (e ∷ es) set =
    shown_at-with_changes q old new es (with_changed set (change_at old new e))
    ∙ ap (λ o. cond (is_some (shown_at q es)) (shown_at q new) o) (shown_at-with_changed q set e.0 (shown_at e.0 old) (shown_at e.0 new))
    ∙ by (same_key q e.0) refl (is_some (shown_at q es)) refl
  where
    by : (t : Bool) → same_key q e.0 ≡ t → (b : Bool) → is_some (shown_at q es) ≡ b
        → cond b (shown_at q new) (cond t (shown_at e.0 new) (shown_at q set)) ≡ cond (is_some (cond t (Some e.1) (shown_at q es))) (shown_at q new) (shown_at q set)
    by true is true some = refl
    by true is false some = ap (λ k. shown_at k new) (sym (same_key-same q e.0 is))
    by false is b some = ap (λ x. cond x (shown_at q new) (shown_at q set)) (sym some)

-- ---- all changes

pub with_changes-new : (old new : RecordSet) → InOrder old → InOrder new → with_changes (changes old new) old ≡ new
with_changes-new old new h g = same_sets (with_changes (changes old new) old) new (in_order-with_changes (changes old new) old h) g (λ q. shown_at-with_changes q old new listed old ∙ by q (is_some (shown_at q listed)) refl)
  where
    differs : Key → Bool
    differs key = not (shown_the_same (shown_at key old) (shown_at key new))

    listed : RecordSet
    listed = only differs (union old new)

    by : (q : Key) (b : Bool) → is_some (shown_at q listed) ≡ b → cond b (shown_at q new) (shown_at q old) ≡ shown_at q new
    by q true e = refl
    by q false e = unchanged q old new (among_keys q (change_at old new) (λ x. refl) listed ∙ e)
