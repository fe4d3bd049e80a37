-- Homes ahead of a start, where the start goes on, and an entry is made.
use Rattle.std.proofs.Common.{◌≡◌, ℕ, ◌+◌, ◌-◌, ◌≤◌, ◌<◌, List, [], ◌∷◌, ◌++◌, length, take, drop, fold, Option, Some, None, refl, sym, ap, subst, ◌∙◌, arith}
use Rattle.std.specs.Prelude.{IfSome}
use Rattle.std.proofs.Math.Seq.{take-add}
use Rattle.std.proofs.lemmas.List.{length-append, length-drop, drop-append-le}
use Rattle.std.proofs.lemmas.List.Sums.{fold-append}
use Rattle.history.specs.Forgetting.{IsAhead, LeadsTo}
use Rattle.history.specs.Kept.{HomesKept, at_moment}
use Rattle.history.specs.States.{State, after, state_at}
use Rattle.history.specs.declared.ahead.Ahead.{Ahead}
use Rattle.history.specs.declared.entry.Entry.{Entry}
use Rattle.history.specs.declared.past.Later.TheVariants as laters
use Rattle.history.proofs.LongerHistory.{state_at-append}

-- the state behind more entries, from a later start
state_at-later : (start : State) (entries : List Entry) (n m : ℕ) → state_at (state_at start entries n) (drop n entries) m ≡ state_at start entries (n + m)
state_at-later start entries n m = sym (fold-append after start (take n entries) (take m (drop n entries))) ∙ ap (fold after start) (sym (take-add n m entries))

-- the start goes on, but not as far
pub ahead-still : (start : State) (entries : List Entry) (count : ℕ) (ahead : Ahead) → IsAhead start entries ahead → count < ahead.count
    → IsAhead (state_at start entries count) (drop count entries) (record ahead { count = ahead.count - count })
ahead-still start entries count ahead is before = record {
  within = omega (arith, is.within, before, length-drop count entries);
  is = is.is ∙ ap (state_at start entries) (omega (arith, before)) ∙ sym (state_at-later start entries count (ahead.count - count));
}

-- the newest homes are ahead of it
ahead-new : (start : State) (entries : List Entry) (count left moment : ℕ) (homes : HomesKept) (ahead : Ahead) → count + left ≡ length entries → at_moment homes moment ≡ state_at start entries (length entries)
    → at_moment ahead.homes ahead.moment ≡ at_moment homes moment → ahead.count ≡ left → IsAhead (state_at start entries count) (drop count entries) ahead
ahead-new start entries count left moment homes ahead sum newest same is = record {
  within = omega (arith, is, sum, length-drop count entries);
  is = same ∙ newest ∙ ap (state_at start entries) (omega (arith, sum, is)) ∙ sym (state_at-later start entries count ahead.count);
}

-- an entry is made
ahead-longer : (start : State) (entries : List Entry) (entry : Entry) (ahead : Ahead) → IsAhead start entries ahead → IsAhead start (entries ++ entry ∷ []) ahead
ahead-longer start entries entry ahead is = record {
  within = omega (arith, is.within, length-append entries (entry ∷ []));
  is = is.is ∙ sym (state_at-append start entries (entry ∷ []) ahead.count is.within);
}

-- an entry is made, and the oldest are forgotten
pub ahead-appended : (start later : State) (entries all items : List Entry) (count : ℕ) (entry : Entry) (ahead : Option Ahead) → IfSome ahead (IsAhead (state_at start entries count) (drop count entries)) → count ≤ length entries
    → later ≡ state_at start entries count → all ≡ entries ++ entry ∷ [] → items ≡ drop count all → IfSome ahead (IsAhead later items)
ahead-appended start later entries all items count entry None is within later_is all_is items_is = tt
ahead-appended start later entries all items count entry (Some ahead) is within later_is all_is items_is =
    let behind : items ≡ drop count entries ++ entry ∷ [] = items_is ∙ ap (drop count) all_is ∙ drop-append-le count entries (entry ∷ []) within in
    subst (λ s. IsAhead s items ahead) (sym later_is) (subst (λ es. IsAhead (state_at start entries count) es ahead) (sym behind) (ahead-longer (state_at start entries count) (drop count entries) entry ahead is))

pub ahead-copied : (start : State) (entries : List Entry) (count left moment : ℕ) (homes : HomesKept) (copied : Option Ahead) → count + left ≡ length entries → at_moment homes moment ≡ state_at start entries (length entries)
    → IfSome copied (λ (ahead : Ahead). at_moment ahead.homes ahead.moment ≡ at_moment homes moment) → IfSome copied (λ (ahead : Ahead). ahead.count ≡ left) → IfSome copied (IsAhead (state_at start entries count) (drop count entries))
ahead-copied start entries count left moment homes None sum newest same is = tt
ahead-copied start entries count left moment homes (Some ahead) sum newest same is = ahead-new start entries count left moment homes ahead sum newest same is

-- the start becomes homes ahead
pub ahead-leads : (start : HomesKept) (moment : ℕ) (entries : List Entry) (taken : Option Ahead) (ahead : Ahead) → taken ≡ Some ahead → IfSome taken (IsAhead (at_moment start moment) entries)
    → LeadsTo start moment (state_at (at_moment start moment) entries ahead.count) (laters.Homes ahead.homes ahead.moment)
ahead-leads start moment entries taken ahead is all = (subst (λ o. IfSome o (IsAhead (at_moment start moment) entries)) is all).is
