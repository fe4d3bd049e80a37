use Rattle.std.proofs.Common.{◌∙◌, subst, sym}
use Rattle.std.proofs.lemmas.List.{take_all}
use Rattle.nametable.specs.Nodes.{AreAlike}
use Rattle.nametable.specs.Blocks.{Blocks, nodes_in, AreFilled}
use Rattle.nametable.proofs.BlockSets.{alike-block, filled-block}
use Rattle.nametable.proofs.blocks.copied_blocks.Goals as goal

pub blocks-2-preserved : goal.blocks-2-preserved
blocks-2-preserved g c = (
  alike-block c.blocks-2.copies.items _ c.deref-block-items.result.now c.blocks-2.block-index c.in_ok-copy.copy c.block-item.result c.blocks-2-test.true c.block-item.is
      c.blocks-2.invariant.0 c.in_ok-copy.ensures c.in_ok-push.ensures.items,
  filled-block c.blocks-2.copies.items _ c.deref-block-items.result.now c.blocks-2.block-index c.in_ok-copy.copy c.block-item.result c.blocks-2-test.true c.block-item.is
      (subst AreFilled (sym c.deref-block-items.ensures.value) c.requires) c.blocks-2.invariant.1 c.in_ok-copy.ensures c.in_ok-push.ensures.items,
)

pub returns-clause-alike : goal.returns-clause-alike
returns-clause-alike g c =
    subst (λ (bs : Blocks _). AreAlike (nodes_in c.blocks-2.copies.items) (nodes_in bs)) (take_all c.blocks-2.block-index c.deref-block-items.result.now c.blocks-2-test.false ∙ c.deref-block-items.ensures.value) c.blocks-2.invariant.0

pub returns-clause-filled : goal.returns-clause-filled
returns-clause-filled g c = c.blocks-2.invariant.1
