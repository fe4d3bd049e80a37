use Rattle.std.proofs.Common.{◌-◌, ◌∙◌, ℕ, sym, arith}
use Rattle.std.specs.Ordering.{nat_cmp}
use Rattle.dnsname.proofs.Eights.{alike_front, decided_by, ended_alike, decides, equal}
use Rattle.dnsname.proofs.comparing.compare_fours.Goals as goal

pub returns-in-Equal : goal.returns-in-Equal
returns-in-Equal c =
    let first = c.args.first.now in
    let second = c.args.second.now in
    let shared = c.requires.shared in
    let low = c.requires.bounds.0 in
    let last : ℕ = c.args.shared - 4 in
    let front = c.cmp-order.ensures ∙ (λ i. nat_cmp (c.four_at.ensures.number i) (c.four_at-2.ensures.number i)) in
    let same = equal c.cmp-order.result (sym c.is_ne.ensures ∙ c.if-is_ne.false) in
    let before = alike_front 4 first second c.args.shared c.four_at.ensures.octets c.four_at-2.ensures.octets shared low c.requires.bounds.1 (sym same ∙ front) in
    let told = c.cmp.ensures ∙ (λ i. nat_cmp (c.four_at-3.ensures.number i) (c.four_at-4.ensures.number i)) in
    c.cmp-in-Equal.ensures
    ∙ ended_alike 4 first second last c.four_at-3.ensures.octets c.four_at-4.ensures.octets before (omega (arith, low, shared)) (omega (arith, low, shared)) (omega (arith, low, shared)) (sym c.in-Equal.is ∙ told)

pub returns-in_default : goal.returns-in_default
returns-in_default c =
    let first = c.args.first.now in
    let second = c.args.second.now in
    let last : ℕ = c.args.shared - 4 in
    let front = c.cmp-order.ensures ∙ (λ i. nat_cmp (c.four_at.ensures.number i) (c.four_at-2.ensures.number i)) in
    let same = equal c.cmp-order.result (sym c.is_ne.ensures ∙ c.if-is_ne.false) in
    let before = alike_front 4 first second c.args.shared c.four_at.ensures.octets c.four_at-2.ensures.octets c.requires.shared c.requires.bounds.0 c.requires.bounds.1 (sym same ∙ front) in
    let told = c.cmp.ensures ∙ (λ i. nat_cmp (c.four_at-3.ensures.number i) (c.four_at-4.ensures.number i)) in
    decides _ _ (decided_by 4 first second last c.four_at-3.ensures.octets c.four_at-4.ensures.octets before _ told) c.in_default.not-Equal
