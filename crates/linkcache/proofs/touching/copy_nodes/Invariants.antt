use Rattle.std.proofs.Common.{◌≡◌, ◌++◌, drop}
use Rattle.nametable.specs.Nodes.{all_rows}
use Rattle.linkcache.proofs.touching.copy_nodes.Given as goal

abbrev pub invariant-nodes : goal.invariant-nodes
invariant-nodes l = l.all.items ++ all_rows (drop l.node-index l.nodes) ≡ l.fn.all.items ++ all_rows l.nodes
