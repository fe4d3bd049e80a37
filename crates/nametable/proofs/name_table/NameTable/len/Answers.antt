use Rattle.std.proofs.Common.{ap, length, arith}
use Rattle.nametable.specs.Nodes.{NodesState}
use Rattle.nametable.proofs.name_table.NameTable.len.Goals as goal

pub returns : goal.returns
returns g c = λ small.
    let seen = ap (λ (t : NodesState _). length t.rows) c.self.view_is in
    let count = c.self.invariant.1 in
    omega (arith, seen, count, small)
