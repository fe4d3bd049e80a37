use Rattle.clockqueue.proofs.Sizes.{joined-taken, taken-from}
use Rattle.clockqueue.proofs.blocks.take_from.Goals as goal

pub returns-clause-value : goal.returns-clause-value
returns-clause-value g c = joined-taken c.args.blocks.now c.args.len c.args.number c.index-blocks-place.result c.remove.result c.requires.tier c.requires.within c.remove.ensures.value

pub returns-clause-items : goal.returns-clause-items
returns-clause-items g c = taken-from c.args.blocks.now c.args.len c.args.number c.remove.new.self c.index-blocks-place.result c.requires.tier c.requires.within c.remove.ensures.rest
