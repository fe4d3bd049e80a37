use Rattle.std.proofs.Common.{◌≡◌, ◌+◌, true, ℕ, List, length, refl, sym, ap, ◌∙◌, arith}
use Rattle.dnsname.specs.Names.{Labels, octets, ends_in}
use Rattle.linkmap.specs.Translation.{local, renamed}
use Rattle.linkcache.proofs.RenamedSizes.{renamed-length}
use Rattle.linkcache.proofs.room.renamed_octets.Goals as goal

-- the octets of both names, and of that with the domain and the seven of `local.`
whole : (name domain : Labels) (mine other : List ℕ) → ends_in name local ≡ true → mine ≡ octets name → other ≡ octets domain → length (octets (renamed local domain name)) + 7 ≡ length mine + length other
whole name domain mine other ends mine-is other-is =
    let seven : length (octets local) ≡ 7 = refl in
    let made = renamed-length local domain name ends in
    let left = ap (λ (l : List ℕ). length l) mine-is in
    let right = ap (λ (l : List ℕ). length l) other-is in
    omega (arith, made, seven, left, right)

pub overflow_sub-result : goal.overflow_sub-result
overflow_sub-result c =
    let sum = whole c.args.name.now c.args.domain.now c.octets.result.now c.octets-2.result.now (sym c.ends_in_local.ensures ∙ c.if-not-ends_in_local.false) c.octets.ensures.octets c.octets-2.ensures.octets in
    omega (arith, sum)

pub returns-clause-octets : goal.returns-clause-octets
returns-clause-octets c =
    let sum = whole c.args.name.now c.args.domain.now c.octets.result.now c.octets-2.result.now (sym c.ends_in_local.ensures ∙ c.if-not-ends_in_local.false) c.octets.ensures.octets c.octets-2.ensures.octets in
    omega (arith, sum)
