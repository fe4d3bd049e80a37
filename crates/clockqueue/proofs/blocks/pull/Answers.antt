use Rattle.std.proofs.Common.{◌+◌, arith}
use Rattle.clockqueue.proofs.Sizes.{pulled-at}
use Rattle.clockqueue.proofs.blocks.pull.Goals as goal

pub returns : goal.returns
returns g c =
    pulled-at c.args.blocks.now c.args.hole (c.args.hole + 1) c.take_first-entry.result c.take_first-entry.new.self c.put_last.new.self c.index-blocks-next.result c.index-blocks-hole.result (omega arith) c.requires.within
    c.take_first-entry.ensures c.put_last.ensures
