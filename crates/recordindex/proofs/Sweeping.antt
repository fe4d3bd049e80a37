-- Places that aren't in use go, and what is kept counts the names that it did.
use Rattle.std.proofs.Common.{◌≡◌, ℕ, ◌+◌, Bool, true, false, cond, List, [], ◌∷◌, filter, Option, Some, None, refl, sym, ap, subst, ◌∙◌, arith, Vec, Global}
use Rattle.std.specs.List.{AllByRecursion}
use Rattle.std.specs.Map.{keys_of}
use Rattle.std.proofs.lemmas.Bool.{ltb-false}
use Rattle.std.proofs.lemmas.Map.Keys.{sorted_head, sorted_tail}
use Rattle.dnsname.specs.Names.{Labels}
use Rattle.recordindex.specs.Endings.{Agrees, AreLowerNames, IsLowerName, Kept, above_of, counted_at, ending_at, is_used, number_or, room_of, same_octets, times, using, weight}
use Rattle.recordindex.proofs.OctetTests.{same-is}
use Rattle.recordindex.proofs.Using.{none-more}
use Rattle.recordindex.proofs.Ended.{Sorted, behind_apart, key_cmp}

-- the places in use
abbrev pub used : Kept → Kept
used kept = filter (λ e. is_used e.1) kept

-- ---- counts

idle-alone : (n : ℕ) → is_used n ≡ false → n ≡ 0
idle-alone n idle = omega (arith, ltb-false 0 n idle)

none-behind : (os : List ℕ) (es : Kept) → AllByRecursion (λ (k : Vec ℕ Global). same_octets os k.items ≡ false) (keys_of es) → ending_at os es ≡ None
none-behind os [] apart = refl
none-behind os (e ∷ es) apart = ap (λ (t : Bool). cond t (Some e.1) (ending_at os es)) apart.0 ∙ none-behind os es apart.1

pub counted-used : (os : List ℕ) (kept : Kept) → Sorted kept → counted_at os (used kept) ≡ counted_at os kept
counted-used os [] sorted = refl
counted-used os (e ∷ es) sorted = by (is_used e.1) refl (counted-used os es (sorted_tail key_cmp e.0 (keys_of es) sorted))
  where
    both : (b : Bool) → counted_at os (used es) ≡ counted_at os es
        → number_or (cond b (Some e.1) (ending_at os (used es))) ≡ number_or (cond b (Some e.1) (ending_at os es))
    both true others = refl
    both false others = others

    gone : (b : Bool) → same_octets os e.0.items ≡ b → e.1 ≡ 0 → counted_at os (used es) ≡ counted_at os es
        → counted_at os (used es) ≡ number_or (cond b (Some e.1) (ending_at os es))
    gone true is none others =
        others
        ∙ ap (λ (o : Option ℕ). number_or o) (none-behind os es (behind_apart os e.0 (keys_of es) (same-is os e.0.items is) (sorted_head key_cmp e.0 (keys_of es) sorted)))
        ∙ sym none
    gone false is none others = others

    by : (t : Bool) → is_used e.1 ≡ t → counted_at os (used es) ≡ counted_at os es → counted_at os (cond t (e ∷ used es) (used es)) ≡ counted_at os (e ∷ es)
    by true is others = both (same_octets os e.0.items) others
    by false is others = gone (same_octets os e.0.items) refl (idle-alone e.1 is) others

using-used : (os : List ℕ) (kept : Kept) → using os (used kept) ≡ using os kept
using-used os [] = refl
using-used os (e ∷ es) = by (is_used e.1) refl (using-used os es)
  where
    by : (t : Bool) → is_used e.1 ≡ t → using os (used es) ≡ using os es → using os (cond t (e ∷ used es) (used es)) ≡ weight t (same_octets os (above_of e.0.items)) + using os es
    by true is others =
        ap (λ (t : Bool). weight t (same_octets os (above_of e.0.items)) + using os (used es)) is
        ∙ ap (λ (n : ℕ). weight true (same_octets os (above_of e.0.items)) + n) others
    by false is others = others ∙ sym (none-more (using os es))

names-used : (kept : Kept) → AllByRecursion IsLowerName (room_of kept) → AllByRecursion IsLowerName (room_of (used kept))
names-used [] names = tt
names-used (e ∷ es) names = by (is_used e.1) (names-used es names.1)
  where
    by : (t : Bool) → AllByRecursion IsLowerName (room_of (used es)) → AllByRecursion IsLowerName (room_of (cond t (e ∷ used es) (used es)))
    by true others = (names.0, others)
    by false others = others

pub swept-low : (was now : Kept) → AreLowerNames was → now ≡ used was → AreLowerNames now
swept-low was now low now-is = subst AreLowerNames (sym now-is) (names-used was low)

pub swept-agrees : (names : List Labels) (was now : Kept) → Sorted was → now ≡ used was → Agrees names was → Agrees names now
swept-agrees names was now sorted now-is agrees os some =
    ap (counted_at os) now-is ∙ counted-used os was sorted ∙ agrees os some
    ∙ ap (λ (n : ℕ). times os names + n) (sym (ap (using os) now-is ∙ using-used os was))
