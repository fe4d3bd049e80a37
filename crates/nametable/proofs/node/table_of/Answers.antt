use Rattle.std.proofs.Common.{◌∙◌, refl, sym, ap, Some}
use Rattle.dnsname.specs.Names.{lower}
use Rattle.rrset.specs.Tables.{TableState}
use Rattle.nametable.specs.Nodes.{Node}
use Rattle.nametable.proofs.NodePlaces.{found_at, name_gone}
use Rattle.nametable.proofs.node.table_of.Goals as goal

pub returns-in-Ok : goal.returns-in-Ok
returns-in-Ok g c =
    let nodes = c.args.nodes.now in
    (found_at (lower c.args.name.now) nodes c.in-Ok.place c.index-nodes-place.result c.requires.nodes c.in-Ok.ensures.found).found
    ∙ ap (λ (g : Node _). Some g.1) (sym c.index-nodes-place.is)
    ∙ ap (λ (t : TableState _). Some t) (sym c.table-in-Ok.ensures)

pub returns-in-Err : goal.returns-in-Err
returns-in-Err g c = (name_gone (lower c.args.name.now) c.args.nodes.now c.in-Err.field-0 c.in-Err.ensures.absent).none

pub returns-then-is_at_lower : goal.returns-then-is_at_lower
returns-then-is_at_lower g c =
    let nodes = c.args.nodes.now in
    let at = c.if-is_at_lower.ensures refl c.requires.first in
    (found_at (lower c.args.name.now) nodes c.args.last c.index-nodes-last.result c.requires.nodes at).found
    ∙ ap (λ (g : Node _). Some g.1) (sym c.index-nodes-last.is)
    ∙ ap (λ (t : TableState _). Some t) (sym c.table.ensures)
