use Rattle.nametable.specs.Blocks.{nodes_in}
use Rattle.nametable.proofs.NodeSets.{counted-same}
use Rattle.nametable.proofs.name_table.NameTable.reserve_for_rows.Goals as goal

pub invariant_of-self : goal.invariant_of-self
invariant_of-self g c =
    let counted = counted-same c.self.inside.count c.self.inside.names (nodes_in c.self.inside.blocks.items) (nodes_in c.reserve_rows.new.blocks.items) (c.self.invariant.0.0, c.self.invariant.1, c.self.invariant.2) c.reserve_rows.ensures.blocks.0 c.reserve_rows.ensures.rows in
    (c.reserve_rows.ensures.blocks, counted.1, counted.2)
