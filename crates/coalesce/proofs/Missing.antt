-- Of the records that were there only those count that are gone.
use Rattle.std.proofs.Common.{◌≡◌, ℕ, Bool, true, false, cond, not, List, [], ◌∷◌, ◌++◌, Option, Some, None, is_some, true≢false, sym, ap, refl, ◌∙◌, arith}
use Rattle.std.specs.Prelude.{filter, ◌==◌}
use Rattle.std.specs.Option.{option_eq}
use Rattle.std.proofs.lemmas.Bool.{eq-eqb, eqb-true}
use Rattle.push_base.specs.Cases.{is_empty}
use Rattle.dnsname.specs.Names.{Labels}
use Rattle.rrset.specs.RecordSet.{RecordSet, shown_at}
use Rattle.rrset.specs.declared.record.Key.{Key}
use Rattle.rrset.specs.declared.record.Shown.{Shown}
use Rattle.dsotlv.specs.declared.message.Notice.{Notice}
use Rattle.coalesce.specs.Net.{of_kind, is_missing}
use Rattle.coalesce.specs.Steps.{removal_of, removal_notices, removals_behind}
use Rattle.coalesce.specs.declared.removing.Removal.{Removal}
use Rattle.coalesce.specs.declared.removing.Removal.TheVariants.{Nothing, Set, One}
use Rattle.coalesce.proofs.Removals.{none_of}
use Rattle.coalesce.proofs.Steps.{RiseFrom, rise_lower}

-- kinds rise behind one of this kind, or from the first
abbrev RiseBehind : Option ℕ → RecordSet → Type 0
RiseBehind None es = RiseFrom 0 es
RiseBehind (Some k) es = RiseFrom k es

rise_next : (before : Option ℕ) (e : Key × Shown) (es : RecordSet) → RiseBehind before (e ∷ es) → RiseFrom e.0.kind es
rise_next None e es r = r.1
rise_next (Some k) e es r = r.1

rise_past : (before : Option ℕ) (e : Key × Shown) (es : RecordSet) → RiseBehind before (e ∷ es) → RiseBehind before es
rise_past None e es r = rise_lower 0 e.0.kind es (omega arith) r.1
rise_past (Some k) e es r = rise_lower k e.0.kind es r.0 r.1

-- the kind of a record that is shown isn't gone
kind_there : (k : Key) (new : RecordSet) → is_some (shown_at k new) ≡ true → is_empty (of_kind k.kind new) ≡ false
kind_there k new there = by (is_empty (of_kind k.kind new)) refl
  where
    by : (b : Bool) → is_empty (of_kind k.kind new) ≡ b → b ≡ false
    by true none = absurd (true≢false (sym there ∙ ap is_some (none_of k k.kind new none (eq-eqb k.kind k.kind refl))))
    by false some = refl

-- nothing is told of it
not_told : (name : Labels) (new : RecordSet) (before : Option ℕ) (e : Key × Shown) → is_some (shown_at e.0 new) ≡ true → removal_notices name e (removal_of new before e.0) ≡ []
not_told name new before e there =
    (λ i. removal_notices name e (cond (kind_there e.0 new there i) (cond (option_eq (λ a b. a == b) before (Some e.0.kind)) Nothing Set) (cond (there i) Nothing One)))

-- a kind isn't that of a record that is shown, if it is gone
not_that : (new : RecordSet) (e f : Key × Shown) → is_some (shown_at e.0 new) ≡ true → is_empty (of_kind f.0.kind new) ≡ true → e.0.kind ≡ f.0.kind → ⊥
not_that new e f there none same = true≢false (sym none ∙ ap (λ (k : ℕ). is_empty (of_kind k new)) (sym same) ∙ kind_there e.0 new there)

-- nor is it that in front of the record
not_before : (new : RecordSet) (before : Option ℕ) (e f : Key × Shown) → is_some (shown_at e.0 new) ≡ true → is_empty (of_kind f.0.kind new) ≡ true → RiseBehind before (e ∷ f ∷ []) → option_eq (λ a b. a == b) before (Some f.0.kind) ≡ false
not_before new None e f there none r = refl
not_before new (Some k) e f there none r = by (k == f.0.kind) refl
  where
    by : (b : Bool) → (k == f.0.kind) ≡ b → b ≡ false
    by true same =
        let is = eqb-true k f.0.kind same in
        let both : e.0.kind ≡ f.0.kind = omega (arith, is, r.0, r.1.0) in
        absurd (not_that new e f there none both)
    by false same = refl

-- so what is told of the next record doesn't depend on it
same_removal : (new : RecordSet) (before : Option ℕ) (e f : Key × Shown) → is_some (shown_at e.0 new) ≡ true → RiseBehind before (e ∷ f ∷ []) → removal_of new (Some e.0.kind) f.0 ≡ removal_of new before f.0
same_removal new before e f there r = by (is_empty (of_kind f.0.kind new)) refl
  where
    other : is_empty (of_kind f.0.kind new) ≡ true → (b : Bool) → (e.0.kind == f.0.kind) ≡ b → b ≡ false
    other none true same = absurd (not_that new e f there none (eqb-true e.0.kind f.0.kind same))
    other none false same = refl

    by : (b : Bool) → is_empty (of_kind f.0.kind new) ≡ b
        → cond b (cond (e.0.kind == f.0.kind) Nothing Set) (cond (is_some (shown_at f.0 new)) Nothing One) ≡ cond b (cond (option_eq (λ a b. a == b) before (Some f.0.kind)) Nothing Set) (cond (is_some (shown_at f.0 new)) Nothing One)
    by true none =
        ap (λ (b : Bool). cond b Nothing Set) (other none (e.0.kind == f.0.kind) refl)
        ∙ sym (ap (λ (b : Bool). cond b Nothing Set) (not_before new before e f there none r))
    by false some = refl

rise_two : (before : Option ℕ) (e f : Key × Shown) (fs : RecordSet) → RiseBehind before (e ∷ f ∷ fs) → RiseBehind before (e ∷ f ∷ [])
rise_two None e f fs r = (r.0, (r.1.0, tt))
rise_two (Some k) e f fs r = (r.0, (r.1.0, tt))

skip_one : (name : Labels) (new : RecordSet) (before : Option ℕ) (e : Key × Shown) (es : RecordSet) → RiseBehind before (e ∷ es) → is_some (shown_at e.0 new) ≡ true
    → removals_behind name new (Some e.0.kind) es ≡ removals_behind name new before es
skip_one name new before e [] r there = refl
skip_one name new before e (f ∷ fs) r there =
    ap (λ (t : Removal). removal_notices name f t ++ removals_behind name new (Some f.0.kind) fs) (same_removal new before e f there (rise_two before e f fs r))

missing_behind : (name : Labels) (new : RecordSet) (before : Option ℕ) (old : RecordSet) → RiseBehind before old → removals_behind name new before old ≡ removals_behind name new before (filter (is_missing new) old)
missing_behind name new before [] r = refl
missing_behind name new before (e ∷ es) r =
    by (is_some (shown_at e.0 new)) refl (missing_behind name new before es (rise_past before e es r)) (missing_behind name new (Some e.0.kind) es (rise_next before e es r))
  where
    by : (b : Bool) → is_some (shown_at e.0 new) ≡ b
        → removals_behind name new before es ≡ removals_behind name new before (filter (is_missing new) es)
        → removals_behind name new (Some e.0.kind) es ≡ removals_behind name new (Some e.0.kind) (filter (is_missing new) es)
        → removal_notices name e (removal_of new before e.0) ++ removals_behind name new (Some e.0.kind) es
        ≡ removals_behind name new before (cond (not b) (e ∷ filter (is_missing new) es) (filter (is_missing new) es))
    by true there past next =
        ap (λ (l : List Notice). l ++ removals_behind name new (Some e.0.kind) es) (not_told name new before e there)
        ∙ skip_one name new before e es r there
        ∙ past
    by false there past next = ap (λ (l : List Notice). removal_notices name e (removal_of new before e.0) ++ l) next

pub missing_only : (name : Labels) (new old : RecordSet) → RiseFrom 0 old → removals_behind name new None old ≡ removals_behind name new None (filter (is_missing new) old)
missing_only name new old r = missing_behind name new None old r
