use Rattle.std.proofs.Common.{set}
use Rattle.nametable.specs.Blocks.{nodes_in}
use Rattle.nametable.proofs.NodeChanges.{TakesKey}
use Rattle.nametable.proofs.BlockPlaces.{block_are, filled-changed, names_here, takes_here}
use Rattle.nametable.proofs.blocks.put_in_block.Goals as goal

pub put-requires-clause-nodes : goal.put-requires-clause-nodes
put-requires-clause-nodes g c =
    block_are c.args.key.owner c.args.blocks.now c.args.place c.index-blocks-place.result c.requires.blocks c.requires.place

takes : (g : _) (c : goal.After-put g) → TakesKey c.args.key c.args.value (nodes_in c.args.blocks.now) (nodes_in (set c.args.blocks.now c.args.place c.put.new.self)) c.put.result
takes g c =
    takes_here c.args.key c.args.value c.args.blocks.now c.args.place c.index-blocks-place.result c.put.new.self c.put.result c.requires.blocks c.requires.place c.put.ensures.only
    (record {
      are = c.put.ensures.nodes;
      value_before = c.put.ensures.value;
      rows = c.put.ensures.rows;
      none = c.put.ensures.none;
      succeeds = c.put.ensures.succeeds;
      here = c.put.ensures.here;
      others = c.put.ensures.others;
      kept = c.put.ensures.kept;
    })

pub returns-clause-blocks : goal.returns-clause-blocks
returns-clause-blocks g c = (
  (takes g c).are,
  filled-changed c.args.key.owner c.args.blocks.now c.args.place c.index-blocks-place.result c.put.new.self c.requires.blocks.1 c.requires.place.within
      c.put.ensures.only,
)

pub returns-clause-names : goal.returns-clause-names
returns-clause-names g c =
    names_here c.args.key.owner c.args.blocks.now c.args.place c.index-blocks-place.result c.requires.blocks c.requires.place c.args.names.now c.put.new.names c.put.new.self c.put.ensures.names c.requires.names

pub returns-clause-value : goal.returns-clause-value
returns-clause-value g c = (takes g c).value_before

pub returns-clause-rows : goal.returns-clause-rows
returns-clause-rows g c = (takes g c).rows

pub returns-clause-none : goal.returns-clause-none
returns-clause-none g c = (takes g c).none

pub returns-clause-succeeds : goal.returns-clause-succeeds
returns-clause-succeeds g c = (takes g c).succeeds

pub returns-clause-here : goal.returns-clause-here
returns-clause-here g c = (takes g c).here

pub returns-clause-others : goal.returns-clause-others
returns-clause-others g c = (takes g c).others

pub returns-clause-kept : goal.returns-clause-kept
returns-clause-kept g c = (takes g c).kept
