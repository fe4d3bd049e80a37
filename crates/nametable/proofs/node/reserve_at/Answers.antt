use Rattle.std.proofs.Common.{◌≡◌, ℕ, ◌≤◌, Option, is_some, false, get_or, set, subst, sym}
use Rattle.std.specs.Result.{OnOk}
use Rattle.rrset.specs.KeyedRows.{row_at}
use Rattle.nametable.specs.Nodes.{room_at}
use Rattle.nametable.proofs.NodePlaces.{found_at}
use Rattle.nametable.proofs.NodeChanges.{KeepsRows, keeps_rows, room_set, adds-set, shown_here}
use Rattle.nametable.proofs.Beginnings.{begins-set}
use Rattle.nametable.proofs.node.reserve_at.Goals as goal

keeps : (g : _) (c : goal.After-reserve_for g) → KeepsRows c.args.key.now.owner c.args.nodes.now (set c.args.nodes.now c.args.index c.reserve_for.new.self)
keeps g c =
    let nodes = c.args.nodes.now in
    keeps_rows c.args.key.now.owner nodes c.args.index (get_or nodes c.args.index c.index-nodes-index.result) c.reserve_for.new.self c.requires.nodes
    (found_at c.args.key.now.owner nodes c.args.index c.index-nodes-index.result c.requires.nodes c.requires.place)
    c.reserve_for.ensures.name c.reserve_for.ensures.rows c.reserve_for.ensures.kept

pub returns-clause-nodes : goal.returns-clause-nodes
returns-clause-nodes g c = (keeps g c).are

pub returns-clause-rows : goal.returns-clause-rows
returns-clause-rows g c = (keeps g c).rows

pub returns-clause-room : goal.returns-clause-room
returns-clause-room g c =
    let nodes = c.args.nodes.now in
    let here = found_at c.args.key.now.owner nodes c.args.index c.index-nodes-index.result c.requires.nodes c.requires.place in
    subst (λ (o : Option _). OnOk c.reserve_for.result (is_some o ≡ false → c.args.keys ≤ room_at (set nodes c.args.index c.reserve_for.new.self) c.args.key.now.owner))
    (sym (shown_here c.args.key.now nodes c.args.index (get_or nodes c.args.index c.index-nodes-index.result) c.requires.nodes here))
    (subst (λ (n : ℕ). OnOk c.reserve_for.result (is_some (row_at c.args.key.now (get_or nodes c.args.index c.index-nodes-index.result).1.rows) ≡ false → c.args.keys ≤ n))
    (sym (room_set c.args.key.now.owner nodes c.args.index _ c.reserve_for.new.self here c.reserve_for.ensures.name)) c.reserve_for.ensures.room)

pub returns-clause-kept : goal.returns-clause-kept
returns-clause-kept g c = (keeps g c).room

pub returns-clause-only : goal.returns-clause-only
returns-clause-only g c =
    let nodes = c.args.nodes.now in
    adds-set c.args.key.now.owner nodes c.args.index (get_or nodes c.args.index c.index-nodes-index.result) c.reserve_for.new.self
    (found_at c.args.key.now.owner nodes c.args.index c.index-nodes-index.result c.requires.nodes c.requires.place) c.reserve_for.ensures.name

pub returns-clause-first : goal.returns-clause-first
returns-clause-first g c = λ first at.
    begins-set first c.args.nodes.now c.args.index c.index-nodes-index.result c.reserve_for.new.self c.reserve_for.ensures.name at
