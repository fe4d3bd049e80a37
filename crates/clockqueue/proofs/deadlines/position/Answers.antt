use Rattle.std.proofs.Common.{◌∙◌, sym, ap, arith}
use Rattle.std.specs.Ordering.{is_eq}
use Rattle.clockqueue.specs.Deadlines.{is_of}
use Rattle.clockqueue.proofs.Firsts.{position-here, position-nowhere}
use Rattle.clockqueue.proofs.deadlines.position.Goals as goal

pub returns-then-is_eq : goal.returns-then-is_eq
returns-then-is_eq g c =
    let is = is_of g.K.Ord.cmp c.args.key.now in
    let here = ap is (sym c.at.ensures) ∙ sym (ap is_eq c.cmp.ensures) ∙ sym c.is_eq.ensures ∙ c.if-is_eq.true in
    sym (position-here is c.args.entries.now.items c.places.index c.at.result.now (omega (arith, c.len-index-end.ensures, c.places-test.true)) c.places.invariant here)

pub returns : goal.returns
returns g c =
    let is = is_of g.K.Ord.cmp c.args.key.now in
    sym (position-nowhere is c.args.entries.now.items (λ k d low high. c.places.invariant k d low (omega (arith, c.len-index-end.ensures, c.places-test.false))))
