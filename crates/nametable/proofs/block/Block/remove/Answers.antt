use Rattle.nametable.proofs.block.Block.remove.Goals as goal

pub invariant_of-self : goal.invariant_of-self
invariant_of-self g c = c.remove_in.ensures.first c.self.inside.first c.self.invariant
