use Rattle.std.proofs.Common.{refl}
use Rattle.nametable.proofs.BlockPlaces.{nodes-cut_at}
use Rattle.nametable.proofs.blocks.cut_block.Goals as goal

pub returns-clause-nodes : goal.returns-clause-nodes
returns-clause-nodes g c =
    nodes-cut_at c.args.blocks.now.items c.reserve.new.self.items c.insert.new.self.items c.args.place _ c.index_mut.result.now c.cut.new.self c.in_ok-behind.behind c.in_ok-reserve.ensures.items c.requires.place
    c.in_ok-behind.ensures.nodes c.index_mut.ensures.value refl c.in-Ok.ensures.items
