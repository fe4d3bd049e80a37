use Rattle.std.proofs.Common.{◌<◌, length, subst, arith}
use Rattle.push_base.proofs.LineSupplyLemmas.{stands_behind}
use Rattle.push_base.proofs.line_supply.LineSupply.skip_quiet.Goals as goal

pub invariant_of-self : goal.invariant_of-self
invariant_of-self c =
    let s = c.self.inside in
    let inside : s.item < length s.items.items = subst (λ l. s.item < length l) c.deref.ensures.value c.in-Some-Quiet.ensures.lookup.3.0 in
    record {
      item = omega arith;
      place = omega arith;
      stands = stands_behind s.items.items s.item s.place s.ended s.lost inside c.self.invariant.stands;
    }
