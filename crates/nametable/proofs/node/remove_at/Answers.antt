use Rattle.std.proofs.Common.{get_or, set}
use Rattle.nametable.proofs.NameCounts.{count-set}
use Rattle.nametable.proofs.NodePlaces.{found_at}
use Rattle.nametable.proofs.NodeChanges.{DropsKey, drops_key, adds-set}
use Rattle.nametable.proofs.Beginnings.{begins-set}
use Rattle.nametable.proofs.node.remove_at.Goals as goal

drops : (g : _) (c : goal.After-names_now g) → DropsKey c.args.key.now c.args.nodes.now (set c.args.nodes.now c.args.index c.remove-removed.new.self) c.remove-removed.result
drops g c =
    let nodes = c.args.nodes.now in
    drops_key c.args.key.now nodes c.args.index (get_or nodes c.args.index c.index-nodes-index-2.result) c.remove-removed.new.self c.remove-removed.result c.requires.nodes
    (found_at c.args.key.now.owner nodes c.args.index c.index-nodes-index-2.result c.requires.nodes c.requires.place)
    c.remove-removed.ensures.name c.remove-removed.ensures.value c.remove-removed.ensures.rows c.remove-removed.ensures.room c.remove-removed.ensures.freed

pub returns-clause-nodes : goal.returns-clause-nodes
returns-clause-nodes g c = (drops g c).are

pub returns-clause-value : goal.returns-clause-value
returns-clause-value g c = (drops g c).value_before

pub returns-clause-rows : goal.returns-clause-rows
returns-clause-rows g c = (drops g c).rows

pub returns-clause-room : goal.returns-clause-room
returns-clause-room g c = (drops g c).room

pub returns-clause-only : goal.returns-clause-only
returns-clause-only g c =
    let nodes = c.args.nodes.now in
    adds-set c.args.key.now.owner nodes c.args.index (get_or nodes c.args.index c.index-nodes-index-2.result) c.remove-removed.new.self
    (found_at c.args.key.now.owner nodes c.args.index c.index-nodes-index-2.result c.requires.nodes c.requires.place) c.remove-removed.ensures.name

pub returns-clause-names : goal.returns-clause-names
returns-clause-names g c = λ others so_far.
    count-set others c.args.names.now c.names_now.result c.has_rows-had.result c.has_rows-has.result c.args.nodes.now c.args.index c.index-nodes-index.result c.index-nodes-index-3.result c.remove-removed.new.self
    c.requires.place.within so_far c.has_rows-had.ensures c.has_rows-has.ensures c.names_now.ensures

pub returns-clause-first : goal.returns-clause-first
returns-clause-first g c = λ first at.
    begins-set first c.args.nodes.now c.args.index c.index-nodes-index-2.result c.remove-removed.new.self c.remove-removed.ensures.name at

pub returns-clause-freed : goal.returns-clause-freed
returns-clause-freed g c = (drops g c).freed
