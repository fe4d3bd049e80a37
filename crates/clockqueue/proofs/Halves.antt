-- A search by halving in a list in strict order: what one look tells of all before it, and of all behind it.
use Rattle.std.proofs.Common.{◌≡◌, ℕ, ◌+◌, ◌<◌, ◌≤◌, Bool, true, false, List, length, get_or, refl, sym, ap, ◌∙◌, arith, ltb}
use Rattle.std.specs.Ordering.{ordering_reverse}
use Rattle.std.specs.Cmp.{IsTotalOrder}
use Rattle.std.specs.List.{AllWithin}
use Rattle.std.specs.List.Sorted.{IsStrictlySortedBy}
use Rattle.std.specs.declared.cmp.Ordering.{Ordering}
use Rattle.std.specs.declared.cmp.Ordering.TheVariants.{Less, Greater}
use Rattle.std.proofs.lemmas.Bool.{ltb-true, ltb-false}
use Rattle.std.proofs.lemmas.List.{get_or_default}
use Rattle.clockqueue.proofs.Ordered.{rising}

module _ {X : Type 0} {R : X → X → Ordering} (o : IsTotalOrder R) where
  pub less_up_to : (xs : List X) (x : X) (m : ℕ) (d : X) → IsStrictlySortedBy R xs → m < length xs → R (get_or xs m d) x ≡ Less → AllWithin (λ y. R y x ≡ Less) xs 0 (m + 1)
  less_up_to xs x m d h there less k e low high = by (ltb k m) refl
    where
      by : (b : Bool) → ltb k m ≡ b → R (get_or xs k e) x ≡ Less
      by true before =
          let one : R (get_or xs k e) (get_or xs m e) ≡ Less = rising o xs h k m e (ltb-true k m before) there in
          o.trans (get_or xs k e) (get_or xs m e) x one (ap (λ y. R y x) (get_or_default xs m e d there) ∙ less)
      by false not_before =
          let same : k ≡ m = omega (arith, ltb-false k m not_before, high) in
          ap (λ i. R (get_or xs i e) x) same ∙ ap (λ y. R y x) (get_or_default xs m e d there) ∙ less

  pub greater_from : (xs : List X) (x : X) (m : ℕ) (d : X) → IsStrictlySortedBy R xs → m < length xs → R (get_or xs m d) x ≡ Greater → AllWithin (λ y. R y x ≡ Greater) xs m (length xs)
  greater_from xs x m d h there greater k e low high = by (ltb m k) refl
    where
      by : (b : Bool) → ltb m k ≡ b → R (get_or xs k e) x ≡ Greater
      by true behind =
          let first : R x (get_or xs m e) ≡ Less = o.antisymm x (get_or xs m e) ∙ ap (λ y. ordering_reverse (R y x)) (get_or_default xs m e d there) ∙ ap ordering_reverse greater in
          let one : R (get_or xs m e) (get_or xs k e) ≡ Less = rising o xs h m k e (ltb-true m k behind) high in
          o.antisymm (get_or xs k e) x ∙ ap ordering_reverse (o.trans x (get_or xs m e) (get_or xs k e) first one)
      by false not_behind =
          let same : k ≡ m = omega (arith, ltb-false m k not_behind, low) in
          ap (λ i. R (get_or xs i e) x) same ∙ ap (λ y. R y x) (get_or_default xs m e d there) ∙ greater
