use Rattle.std.proofs.Common.{◌∙◌, subst}
use Rattle.std.proofs.lemmas.List.{take_all}
use Rattle.nametable.specs.Nodes.{Nodes, AreAlike}
use Rattle.nametable.proofs.NodeSets.{alike-next}
use Rattle.nametable.proofs.block.copied_nodes.Goals as goal

pub nodes-preserved : goal.nodes-preserved
nodes-preserved g c =
    alike-next c.nodes.copies.items _ c.deref-node-items.result.now c.nodes.node-index c.in_ok-copy.copy c.node-item.result c.nodes-test.true c.node-item.is
    c.nodes.invariant c.in_ok-copy.ensures.name c.in_ok-copy.ensures.rows c.in_ok-push.ensures.items

pub returns : goal.returns
returns g c =
    subst (λ (ns : Nodes _). AreAlike c.nodes.copies.items ns) (take_all c.nodes.node-index c.deref-node-items.result.now c.nodes-test.false ∙ c.deref-node-items.ensures.value) c.nodes.invariant
