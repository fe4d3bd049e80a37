-- The moments at which rows end, beside the rows that change.
use Rattle.std.proofs.Common.{◌≡◌, ℕ, Bool, true, false, cond, List, [], ◌∷◌, map, Option, Some, None, is_some, option_map, refl, sym, ap, ◌∙◌}
use Rattle.std.specs.Prelude.{if◌then◌else◌}
use Rattle.std.specs.Cmp.{tied_itself}
use Rattle.std.specs.Ordering.{nat_cmp, ordering_then, is_eq}
use Rattle.std.specs.List.{find, AllByRecursion}
use Rattle.std.proofs.lemmas.Cmp.{nat_cmp_total}
use Rattle.clockqueue.specs.Deadlines.{Deadlines, is_of, is_set_to, moment_of, without}
use Rattle.clockqueue.proofs.Keyed.{without_absent, without_twice, gone, moment-with, moment-without}
use Rattle.rrset.specs.declared.record.Key.{Key}
use Rattle.rrset.specs.Records.{key_cmp, same_key}
use Rattle.rrset.specs.Tables.{HasLowerOwner}
use Rattle.rrset.proofs.KeyOrder.{key_cmp_total}
use Rattle.rrset.proofs.SameRows.{same_key-same}
use Rattle.linkcache.specs.declared.plan.RowChange.{RowChange}
use Rattle.linkcache.specs.declared.plan.PlannedRow.{PlannedRow}
use Rattle.linkcache.specs.declared.row.HeardRow.{HeardRow}
use Rattle.linkcache.specs.Ends.{with_end, with_end_change}
use Rattle.linkcache.specs.Plans.{HaveLowerKeys}
use Rattle.rrset.proofs.WithChanges.{same_key-turned}
use Rattle.linkcache.proofs.RowEnds.{ends_of, some-same}

-- a key that has a moment is found with it
set_found : (key : Key) (moment : ℕ) (ds : Deadlines Key) → moment_of key_cmp key ds ≡ Some moment → is_some (find (is_set_to key_cmp key moment) ds) ≡ true
set_found key moment [] has = absurd cc
set_found key moment (d ∷ ds) has = by (is_of key_cmp key d) (is_set_to key_cmp key moment d) refl refl has (set_found key moment ds)
  where
    tie : d.0 ≡ moment → is_set_to key_cmp key moment d ≡ is_of key_cmp key d
    tie e = ap (λ n. is_eq (ordering_then (nat_cmp n moment) (key_cmp d.1 key))) e ∙ ap (λ r. is_eq (ordering_then r (key_cmp d.1 key))) (tied_itself nat_cmp_total moment)

    by : (a b : Bool) → is_of key_cmp key d ≡ a → is_set_to key_cmp key moment d ≡ b → option_map (λ (x : ℕ × Key). x.0) (cond a (Some d) (find (is_of key_cmp key) ds)) ≡ Some moment
        → (moment_of key_cmp key ds ≡ Some moment → is_some (find (is_set_to key_cmp key moment) ds) ≡ true) → is_some (cond b (Some d) (find (is_set_to key_cmp key moment) ds)) ≡ true
    by a true a-is b-is e rest = refl
    by true false a-is b-is e rest = let t : true ≡ false = sym a-is ∙ sym (tie (some-same d.0 moment e)) ∙ b-is in absurd cc
    by false false a-is b-is e rest = rest e

some-mapped : {A B : Type 0} (f : A → B) (o : Option A) → is_some (option_map f o) ≡ is_some o
some-mapped f None = refl
some-mapped f (Some a) = refl

-- it is taken out
pub taken_out : (key : Key) (moment : ℕ) (ds later : Deadlines Key) (found : Option Key) → moment_of key_cmp key ds ≡ Some moment → found ≡ option_map (λ d. d.1) (find (is_set_to key_cmp key moment) ds)
    → later ≡ (if is_some found then without key_cmp key ds else ds) → later ≡ without key_cmp key ds
taken_out key moment ds later found has is later-is =
    later-is ∙ ap (λ b. if b then without key_cmp key ds else ds) (ap is_some is ∙ some-mapped (λ (d : ℕ × Key). d.1) (find (is_set_to key_cmp key moment) ds) ∙ set_found key moment ds has)

pub none_there : (key : Key) (ds : Deadlines Key) → moment_of key_cmp key ds ≡ None → ds ≡ without key_cmp key ds
none_there key ds none = sym (without_absent key_cmp_total key ds none)

pub none_left : (key : Key) (ds later : Deadlines Key) → later ≡ without key_cmp key ds → moment_of key_cmp key later ≡ None
none_left key ds later is = ap (moment_of key_cmp key) is ∙ gone key_cmp_total key ds

-- the moment of the change, in place of the one that was taken out
pub end_changed : (change : RowChange) (key : Key) (after : Option ℕ) (ds : Deadlines Key) → key ≡ change.key → after ≡ ends_of change.after → with_end (without key_cmp key ds) key after ≡ with_end_change ds change
end_changed change key after ds same after-is =
    ap (λ (o : Option ℕ). with_end (without key_cmp key ds) key o) after-is ∙ ap (λ k. with_end (without key_cmp k ds) k (ends_of change.after)) same ∙ by change.after
  where
    by : (o : Option HeardRow) → with_end (without key_cmp change.key ds) change.key (ends_of o) ≡ with_end_change ds (record change { after = o })
    by None = refl
    by (Some row) = without_twice key_cmp_total change.key row.ends ds

moment-ended : (q key : Key) (ds : Deadlines Key) (after : Option ℕ) → moment_of key_cmp q (with_end (without key_cmp key ds) key after) ≡ cond (same_key q key) after (moment_of key_cmp q ds)
moment-ended q key ds None = moment-without key_cmp_total q key ds ∙ ap (λ b. cond b None (moment_of key_cmp q ds)) (same_key-turned key q)
moment-ended q key ds (Some moment) =
    ap (λ (l : Deadlines Key). moment_of key_cmp q l) (without_twice key_cmp_total key moment ds)
    ∙ moment-with key_cmp_total q key moment ds
    ∙ ap (λ b. cond b (Some moment) (moment_of key_cmp q ds)) (same_key-turned key q)

-- the moment that a key has in place of itself changes none
pub end_kept : (key : Key) (ds : Deadlines Key) (after : Option ℕ) → moment_of key_cmp key ds ≡ after → (query : Key) → moment_of key_cmp query ds ≡ moment_of key_cmp query (with_end (without key_cmp key ds) key after)
end_kept key ds after same query = by (same_key query key) refl ∙ sym (moment-ended query key ds after)
  where
    by : (b : Bool) → same_key query key ≡ b → moment_of key_cmp query ds ≡ cond b after (moment_of key_cmp query ds)
    by true is = ap (λ k. moment_of key_cmp k ds) (same_key-same query key is) ∙ same
    by false is = refl

pub lower_planned : (rows : List PlannedRow) → HaveLowerKeys (map (λ r. r.change) rows) → AllByRecursion (λ r. HasLowerOwner r.change.key) rows
lower_planned [] h = tt
lower_planned (r ∷ rs) h = (h.0, lower_planned rs h.1)
