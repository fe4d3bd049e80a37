use Rattle.std.proofs.Common.{◌≡◌, drop}
use Rattle.rrset.specs.RecordSet.{union}
use Rattle.nametable.specs.Nodes.{all_rows}
use Rattle.nametable.proofs.uniting.put_nodes.Given as goal

abbrev pub invariant-nodes : goal.invariant-nodes
invariant-nodes l = union l.all.rows (all_rows (drop l.node-index l.nodes)) ≡ union l.fn.all.rows (all_rows l.nodes)
