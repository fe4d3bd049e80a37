use Rattle.std.proofs.Common.{◌≡◌, true, false, arith}
use Rattle.linkmap.proofs.Tests.{turn, turn_fails, turn_passes}
use Rattle.linkmap.proofs.inside.are_renamable.Goals as goal

pub returns-then-not-passes : goal.returns-then-not-passes
returns-then-not-passes c =
    let t = turn _ c.args.parts.now _ c.args.rdata.now c.parts.part-index _ c.in-Some.after c.in-Some.passes _ _ (omega arith) c.test_part.ensures.tested c.in-Some.is c.parts.invariant.1 c.parts.invariant.2 in
    let n = c.if-not-passes.true in
    let fails : c.in-Some.passes ≡ false = cc in
    turn_fails _ _ _ _ _ _ t fails

pub parts-preserved : goal.parts-preserved
parts-preserved c =
    let t = turn _ c.args.parts.now _ c.args.rdata.now c.parts.part-index _ c.in-Some.after c.in-Some.passes _ _ (omega arith) c.test_part.ensures.tested c.in-Some.is c.parts.invariant.1 c.parts.invariant.2 in
    let n = c.if-not-passes.false in
    let passes : c.in-Some.passes ≡ true = cc in
    (c.in-Some.ensures.within, t.read, turn_passes _ _ _ _ _ _ t passes)
