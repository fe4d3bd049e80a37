use Rattle.std.proofs.Common.{◌∙◌, ap}
use Rattle.nametable.specs.Nodes.{NodesState}
use Rattle.nametable.specs.Blocks.{nodes_in}
use Rattle.nametable.proofs.NodeSets.{counted-copied, alike-all_rows}
use Rattle.nametable.proofs.name_table.NameTable.copy.Goals as goal

pub invariant_of-result : goal.invariant_of-result
invariant_of-result g c =
    let counted = counted-copied c.self.inside.count c.self.inside.names (nodes_in c.self.inside.blocks.items) (nodes_in c.in_ok-blocks.blocks.items) (c.self.invariant.0.0, c.self.invariant.1, c.self.invariant.2) c.in_ok-blocks.ensures.alike in
    ((counted.0, c.in_ok-blocks.ensures.filled), counted.1, counted.2)

pub returns : goal.returns
returns g c = alike-all_rows (nodes_in c.in_ok-blocks.blocks.items) (nodes_in c.self.inside.blocks.items) c.in_ok-blocks.ensures.alike ∙ ap (λ (t : NodesState _). t.rows) c.self.view_is
