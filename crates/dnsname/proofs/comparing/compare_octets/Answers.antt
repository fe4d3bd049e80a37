use Rattle.std.proofs.Common.{◌-◌, ◌∙◌, ℕ, refl, sym, arith}
use Rattle.std.specs.Ordering.{nat_cmp}
use Rattle.dnsname.proofs.Eights.{decided_by, alike_behind, ended_alike, fewer_alike, decides, unequal, equal}
use Rattle.dnsname.proofs.comparing.compare_octets.Goals as goal

pub eights-init : goal.eights-init
eights-init c = (omega arith, omega arith, refl)

pub returns-then-is_ne : goal.returns-then-is_ne
returns-then-is_ne c =
    let told = c.cmp-order.ensures ∙ (λ i. nat_cmp (c.eight_at.ensures.number i) (c.eight_at-in-eights.ensures.number i)) in
    let is = decided_by 8 _ _ c.eights.place c.eight_at.ensures.octets c.eight_at-in-eights.ensures.octets c.eights.invariant.2 _ told in
    decides _ _ is (unequal _ (sym c.is_ne.ensures ∙ c.if-is_ne.true))

pub eights-preserved : goal.eights-preserved
eights-preserved c =
    let told = c.cmp-order.ensures ∙ (λ i. nat_cmp (c.eight_at.ensures.number i) (c.eight_at-in-eights.ensures.number i)) in
    let same = equal c.cmp-order.result (sym c.is_ne.ensures ∙ c.if-is_ne.false) in
    let sizes = c.eights.invariant.0 in
    let before = c.eights-test.true in (
      sizes,
      omega (arith, before),
      alike_behind 8 _ _ c.eights.place c.eight_at.ensures.octets c.eight_at-in-eights.ensures.octets c.eights.invariant.2 (omega (arith, sizes, before)) (omega (arith, sizes, before)) (sym same ∙ told),
    )

pub returns-in-Equal : goal.returns-in-Equal
returns-in-Equal c =
    let told = c.cmp.ensures ∙ (λ i. nat_cmp (c.eight_at-2.ensures.number i) (c.eight_at-3.ensures.number i)) in
    let sizes = c.eights.invariant.0 in
    let last : ℕ = c.min-shared.result - 8 in
    let before = fewer_alike c.eights.place last _ _ (omega (arith, c.eights-test.false)) c.eights.invariant.2 in
    c.cmp-in-Equal.ensures
    ∙ ended_alike 8 _ _ last c.eight_at-2.ensures.octets c.eight_at-3.ensures.octets before (omega (arith, sizes)) (omega (arith, sizes)) sizes (sym c.in-Equal.is ∙ told)

pub returns-in_default : goal.returns-in_default
returns-in_default c =
    let told = c.cmp.ensures ∙ (λ i. nat_cmp (c.eight_at-2.ensures.number i) (c.eight_at-3.ensures.number i)) in
    let last : ℕ = c.min-shared.result - 8 in
    let before = fewer_alike c.eights.place last _ _ (omega (arith, c.eights-test.false)) c.eights.invariant.2 in
    let is = decided_by 8 _ _ last c.eight_at-2.ensures.octets c.eight_at-3.ensures.octets before _ told in
    decides _ _ is c.in_default.not-Equal
