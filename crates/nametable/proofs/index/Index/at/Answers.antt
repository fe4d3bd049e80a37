use Rattle.nametable.specs.Blocks.{nodes_in}
use Rattle.nametable.proofs.IndexRows.{rising-found}
use Rattle.nametable.proofs.index.Index.at.Goals as goal

pub returns-clause-order : goal.returns-clause-order
returns-clause-order g c = rising-found c.args.name.now (nodes_in c.blocks-2.result.now) _ c.at.result.now c.blocks-2.ensures.nodes c.blocks-2.ensures.rows c.at.ensures
