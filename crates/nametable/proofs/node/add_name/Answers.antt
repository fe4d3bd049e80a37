use Rattle.std.proofs.Common.{◌≡◌, ◌∙◌, sym, ap, subst, arith}
use Rattle.std.specs.List.{insert}
use Rattle.dnsname.specs.Names.{Labels}
use Rattle.nametable.specs.Nodes.{Nodes, IsNameAt, room_at}
use Rattle.nametable.specs.Blocks.{AddsNoOther, BeginsAt}
use Rattle.nametable.proofs.NodeChanges.{KeepsRows, adds_name, room_added, stands, adds-insert}
use Rattle.nametable.proofs.Beginnings.{begins-insert}
use Rattle.nametable.proofs.node.add_name.Goals as goal

seen : (g : _) (c : goal.In_ok-insert g) → c.insert.new.self.items ≡ insert c.args.nodes.now.items c.args.index (c.args.owner, c.in_ok-node.node.1)
seen g c = c.in_ok-insert.ensures.items ∙ ap (λ (l : Labels). insert c.args.nodes.now.items c.args.index (l, c.in_ok-node.node.1)) c.in_ok-node.ensures.name

keeps : (g : _) (c : goal.In_ok-insert g) → KeepsRows c.args.owner c.args.nodes.now.items c.insert.new.self.items
keeps g c =
    subst (λ (l : Nodes _). KeepsRows c.args.owner c.args.nodes.now.items l) (sym (seen g c))
    (adds_name c.args.owner c.in_ok-node.node.1 c.args.nodes.now.items c.args.index c.requires.nodes c.requires.lower c.requires.place c.in_ok-node.ensures.rows)

pub returns-clause-nodes : goal.returns-clause-nodes
returns-clause-nodes g c = (keeps g c).are

pub returns-clause-place : goal.returns-clause-place
returns-clause-place g c = subst (λ (l : Nodes _). IsNameAt c.args.owner l c.args.index) (sym (seen g c)) (stands c.args.owner c.in_ok-node.node.1 c.args.nodes.now.items c.args.index c.requires.place)

pub returns-clause-rows : goal.returns-clause-rows
returns-clause-rows g c = (keeps g c).rows

pub returns-clause-kept : goal.returns-clause-kept
returns-clause-kept g c = (keeps g c).room

pub returns-clause-room : goal.returns-clause-room
returns-clause-room g c =
    let made = c.in_ok-node.ensures.room in
    let seen_room = ap (λ (ns : Nodes _). room_at ns c.args.owner) (seen g c) ∙ room_added c.args.owner c.in_ok-node.node.1 c.args.nodes.now.items c.args.index c.requires.place in
    omega (arith, made, seen_room)

pub returns-clause-only : goal.returns-clause-only
returns-clause-only g c = subst (AddsNoOther c.args.owner c.args.nodes.now.items) (sym (seen g c)) (adds-insert c.args.owner c.in_ok-node.node.1 c.args.nodes.now.items c.args.index c.requires.place)

pub returns-clause-first : goal.returns-clause-first
returns-clause-first g c =
    subst (λ (l : Nodes _). BeginsAt c.first_with-number.result l) (sym c.in_ok-insert.ensures.items)
    (begins-insert c.args.first.now c.first_with-number.result c.args.nodes.now.items c.args.index c.in_ok-node.node c.requires.first c.requires.place.within c.first_with-number.ensures.here c.first_with-number.ensures.behind)
