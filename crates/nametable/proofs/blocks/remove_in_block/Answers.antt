use Rattle.std.proofs.Common.{set}
use Rattle.nametable.specs.Blocks.{nodes_in}
use Rattle.nametable.proofs.NodeChanges.{DropsKey}
use Rattle.nametable.proofs.BlockPlaces.{block_are, filled-changed, names_here, drops_here}
use Rattle.nametable.proofs.blocks.remove_in_block.Goals as goal

pub remove-requires : goal.remove-requires
remove-requires g c = record { nodes = block_are c.args.key.now.owner c.args.blocks.now c.args.place c.index-blocks-place.result c.requires.blocks c.requires.place }

drops : (g : _) (c : goal.After-remove g) → DropsKey c.args.key.now (nodes_in c.args.blocks.now) (nodes_in (set c.args.blocks.now c.args.place c.remove.new.self)) c.remove.result
drops g c =
    drops_here c.args.key.now c.args.blocks.now c.args.place c.index-blocks-place.result c.remove.new.self c.remove.result c.requires.blocks c.requires.place c.remove.ensures.only
    (record {
      are = c.remove.ensures.nodes;
      value_before = c.remove.ensures.value;
      rows = c.remove.ensures.rows;
      room = c.remove.ensures.room;
      freed = c.remove.ensures.freed;
    })

pub returns-clause-blocks : goal.returns-clause-blocks
returns-clause-blocks g c = (
  (drops g c).are,
  filled-changed c.args.key.now.owner c.args.blocks.now c.args.place c.index-blocks-place.result c.remove.new.self c.requires.blocks.1 c.requires.place.within
      c.remove.ensures.only,
)

pub returns-clause-names : goal.returns-clause-names
returns-clause-names g c =
    names_here c.args.key.now.owner c.args.blocks.now c.args.place c.index-blocks-place.result c.requires.blocks c.requires.place c.args.names.now c.remove.new.names c.remove.new.self c.remove.ensures.names c.requires.names

pub returns-clause-value : goal.returns-clause-value
returns-clause-value g c = (drops g c).value_before

pub returns-clause-rows : goal.returns-clause-rows
returns-clause-rows g c = (drops g c).rows

pub returns-clause-room : goal.returns-clause-room
returns-clause-room g c = (drops g c).room

pub returns-clause-freed : goal.returns-clause-freed
returns-clause-freed g c = (drops g c).freed
