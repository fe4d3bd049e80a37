use Rattle.std.proofs.Common.{◌∙◌, ap}
use Rattle.nametable.specs.Nodes.{NodesState, all_rows}
use Rattle.nametable.specs.Blocks.{nodes_in}
use Rattle.nametable.proofs.NodeSets.{counted-dropped, all_rows-filter}
use Rattle.nametable.proofs.name_table.NameTable.sweep.Goals as goal

pub invariant_of-self : goal.invariant_of-self
invariant_of-self g c =
    let counted = counted-dropped c.self.inside.count c.self.inside.names (nodes_in c.self.inside.blocks.items) (nodes_in c.drop_empty_blocks.new.blocks.items) (c.self.invariant.0.0, c.self.invariant.1, c.self.invariant.2) c.drop_empty_blocks.ensures.nodes in
    ((counted.0, c.drop_empty_blocks.ensures.filled), counted.1, counted.2)

pub returns : goal.returns
returns g c = ap all_rows c.drop_empty_blocks.ensures.nodes ∙ all_rows-filter (nodes_in c.self.inside.blocks.items) ∙ ap (λ (t : NodesState _). t.rows) c.self.view_is
