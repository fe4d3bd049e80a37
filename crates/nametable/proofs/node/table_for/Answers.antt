use Rattle.std.proofs.Common.{◌∙◌, refl, sym, ap, Some}
use Rattle.rrset.specs.Tables.{TableState}
use Rattle.nametable.specs.Nodes.{Node}
use Rattle.nametable.proofs.NodePlaces.{found_at, name_gone}
use Rattle.nametable.proofs.node.table_for.Goals as goal

pub returns-in-Ok : goal.returns-in-Ok
returns-in-Ok g c =
    let nodes = c.args.nodes.now in
    (found_at c.args.key.now.owner nodes c.in-Ok.index c.index-nodes-index.result c.requires c.in-Ok.ensures.found).found
    ∙ ap (λ (g : Node _). Some g.1) (sym c.index-nodes-index.is)
    ∙ ap (λ (t : TableState _). Some t) (sym c.table-in-Ok.ensures)

pub returns-in-Err : goal.returns-in-Err
returns-in-Err g c = (name_gone c.args.key.now.owner c.args.nodes.now c.in-Err.field-0 c.in-Err.ensures.absent).none

pub returns-then-is_at : goal.returns-then-is_at
returns-then-is_at g c =
    let nodes = c.args.nodes.now in
    let at = c.if-is_at.ensures refl c.first_of.ensures in
    (found_at c.args.key.now.owner nodes c.args.last c.index-nodes-last.result c.requires at).found
    ∙ ap (λ (g : Node _). Some g.1) (sym c.index-nodes-last.is)
    ∙ ap (λ (t : TableState _). Some t) (sym c.table.ensures)
