use Rattle.std.proofs.Common.{get_or, set}
use Rattle.nametable.proofs.NameCounts.{count-set}
use Rattle.nametable.proofs.NodePlaces.{found_at}
use Rattle.nametable.proofs.NodeChanges.{TakesKey, takes_key, adds-set}
use Rattle.nametable.proofs.Beginnings.{begins-set}
use Rattle.nametable.proofs.node.put_at.Goals as goal

takes : (g : _) (c : goal.After-names_now g) → TakesKey c.args.key c.args.value c.args.nodes.now (set c.args.nodes.now c.args.index c.put-before.new.self) c.put-before.result
takes g c =
    let nodes = c.args.nodes.now in
    takes_key c.args.key c.args.value nodes c.args.index (get_or nodes c.args.index c.index-nodes-index-2.result) c.put-before.new.self c.requires.nodes
    (found_at c.args.key.owner nodes c.args.index c.index-nodes-index-2.result c.requires.nodes c.requires.place)
    c.put-before.ensures.name c.put-before.result c.put-before.ensures.rows c.put-before.ensures.none c.put-before.ensures.value c.put-before.ensures.succeeds c.put-before.ensures.room c.put-before.ensures.kept

pub returns-clause-nodes : goal.returns-clause-nodes
returns-clause-nodes g c = (takes g c).are

pub returns-clause-value : goal.returns-clause-value
returns-clause-value g c = (takes g c).value_before

pub returns-clause-rows : goal.returns-clause-rows
returns-clause-rows g c = (takes g c).rows

pub returns-clause-none : goal.returns-clause-none
returns-clause-none g c = (takes g c).none

pub returns-clause-succeeds : goal.returns-clause-succeeds
returns-clause-succeeds g c = (takes g c).succeeds

pub returns-clause-here : goal.returns-clause-here
returns-clause-here g c = (takes g c).here

pub returns-clause-others : goal.returns-clause-others
returns-clause-others g c = (takes g c).others

pub returns-clause-only : goal.returns-clause-only
returns-clause-only g c =
    let nodes = c.args.nodes.now in
    adds-set c.args.key.owner nodes c.args.index (get_or nodes c.args.index c.index-nodes-index-2.result) c.put-before.new.self
    (found_at c.args.key.owner nodes c.args.index c.index-nodes-index-2.result c.requires.nodes c.requires.place) c.put-before.ensures.name

pub returns-clause-names : goal.returns-clause-names
returns-clause-names g c = λ others so_far.
    count-set others c.args.names.now c.names_now.result c.has_rows-had.result c.has_rows-has.result c.args.nodes.now c.args.index c.index-nodes-index.result c.index-nodes-index-3.result c.put-before.new.self
    c.requires.place.within so_far c.has_rows-had.ensures c.has_rows-has.ensures c.names_now.ensures

pub returns-clause-first : goal.returns-clause-first
returns-clause-first g c = λ first at.
    begins-set first c.args.nodes.now c.args.index c.index-nodes-index-2.result c.put-before.new.self c.put-before.ensures.name at

pub returns-clause-kept : goal.returns-clause-kept
returns-clause-kept g c = (takes g c).kept
