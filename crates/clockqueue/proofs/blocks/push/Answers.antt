use Rattle.std.proofs.Common.{◌+◌, arith}
use Rattle.clockqueue.proofs.Sizes.{pushed-at}
use Rattle.clockqueue.proofs.blocks.push.Goals as goal

pub returns : goal.returns
returns g c =
    pushed-at c.args.blocks.now c.args.full (c.args.full + 1) c.take_last-entry.result c.take_last-entry.new.self c.put_first.new.self c.index-blocks-full.result c.index-blocks-next.result (omega arith) c.requires.within
    c.take_last-entry.ensures c.put_first.ensures
