use Rattle.clockqueue.proofs.Sizes.{read-at}
use Rattle.clockqueue.proofs.blocks.entry_at.Goals as goal

pub returns : goal.returns
returns g c = read-at c.args.blocks.now c.args.len c.args.number c.index-blocks-place.result c.at.result.now c.requires.tier c.requires.within c.index-blocks-place.is c.at.ensures
