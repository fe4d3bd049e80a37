use Rattle.std.proofs.Common.{◌≡◌, ◌∙◌, sym, ap, subst, Option, Some, None}
use Rattle.std.specs.Option.{MatchOption}
use Rattle.rrset.specs.KeyedRows.{row_at}
use Rattle.nametable.specs.Nodes.{NodesState, table_at}
use Rattle.nametable.specs.Blocks.{Blocks, nodes_in}
use Rattle.nametable.proofs.AllRows.{row_at-all_rows, value_in}
use Rattle.nametable.proofs.name_table.NameTable.get.Goals as goal

pub returns-in-Some : goal.returns-in-Some
returns-in-Some g c =
    let key = c.args.key.now in
    let nodes = nodes_in c.self.inside.blocks.items in
    let seen = ap (λ (t : NodesState _). row_at key t.rows) c.self.view_is in
    let here = row_at-all_rows key nodes c.self.invariant.0.0 ∙ ap (λ (bs : Blocks _). value_in key (table_at key.owner (nodes_in bs))) (sym c.deref.ensures.value) ∙ ap (value_in key) c.in-Some.ensures in
    subst (λ (o : Option _). MatchOption c.get.result (o ≡ None) (λ value. o ≡ Some value.now)) (sym here ∙ seen) c.get.ensures

pub returns-in-None : goal.returns-in-None
returns-in-None g c =
    let key = c.args.key.now in
    let nodes = nodes_in c.self.inside.blocks.items in
    sym (ap (λ (t : NodesState _). row_at key t.rows) c.self.view_is)
    ∙ row_at-all_rows key nodes c.self.invariant.0.0 ∙ ap (λ (bs : Blocks _). value_in key (table_at key.owner (nodes_in bs))) (sym c.deref.ensures.value) ∙ ap (value_in key) c.in-None.ensures
