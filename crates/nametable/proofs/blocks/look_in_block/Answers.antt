use Rattle.dnsname.specs.Names.{lower}
use Rattle.nametable.proofs.BlockPlaces.{block_are}
use Rattle.nametable.proofs.blocks.look_in_block.Goals as goal

pub look_for-requires-clause-nodes : goal.look_for-requires-clause-nodes
look_for-requires-clause-nodes g c = block_are (lower c.args.name.now) c.args.blocks.now c.args.place c.index-blocks-place.result c.requires.blocks c.requires.place
