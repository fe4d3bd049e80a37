use Rattle.std.proofs.Common.{◌∙◌, sym, ap}
use Rattle.dnsname.specs.Names.{lower}
use Rattle.rrset.specs.KeyedRows.{rows_of}
use Rattle.nametable.specs.Nodes.{NodesState, table_at}
use Rattle.nametable.specs.Blocks.{Blocks, nodes_in}
use Rattle.nametable.proofs.AllRows.{rows_of-all_rows, rows_in}
use Rattle.nametable.proofs.name_table.NameTable.at.Goals as goal

pub returns-in-Some : goal.returns-in-Some
returns-in-Some g c =
    let name = c.args.name.now in
    c.entries.ensures.rows
    ∙ sym (rows_of-all_rows name (nodes_in c.self.inside.blocks.items) c.self.invariant.0.0 ∙ ap (λ (bs : Blocks _). rows_in (table_at (lower name) (nodes_in bs))) (sym c.deref.ensures.value) ∙ ap rows_in c.in-Some.ensures)
    ∙ ap (λ (t : NodesState _). rows_of name t.rows) c.self.view_is

pub returns-in-None : goal.returns-in-None
returns-in-None g c =
    let name = c.args.name.now in
    sym (rows_of-all_rows name (nodes_in c.self.inside.blocks.items) c.self.invariant.0.0 ∙ ap (λ (bs : Blocks _). rows_in (table_at (lower name) (nodes_in bs))) (sym c.deref.ensures.value) ∙ ap rows_in c.in-None.ensures)
    ∙ ap (λ (t : NodesState _). rows_of name t.rows) c.self.view_is
