use Rattle.std.proofs.Common.{◌<◌, length, arith}
use Rattle.replay.proofs.exchanges.Filling.{front-more, front-less}
use Rattle.replay.proofs.told_ends.same_front.Goals as goal

pub told-preserved : goal.told-preserved
told-preserved c =
    let in_told : c.told.place < length c.args.told.now = omega (arith, c.told-test.true, c.min-least.ensures) in
    let in_filled : c.told.place < length c.args.filled.now = omega (arith, c.told-test.true, c.min-least.ensures) in
    front-more c.args.told.now c.args.filled.now c.told.place (0, 0) in_told in_filled (c.is_other.ensures c.if-is_other.false) c.told.invariant

pub returns-clause-same : goal.returns-clause-same
returns-clause-same c = front-less c.args.told.now c.args.filled.now c.min-least.result c.told.place c.told-test.false c.told.invariant
