use Rattle.std.proofs.Common.{◌≡◌, drop, fold}
use Rattle.nametable.specs.Nodes.{all_rows}
use Rattle.linkcache.specs.Rows.{put_shown}
use Rattle.linkcache.proofs.showing.put_shown_nodes.Given as goal

abbrev pub invariant-nodes : goal.invariant-nodes
invariant-nodes l = fold (put_shown l.rules) l.set.rows (all_rows (drop l.node-index l.nodes)) ≡ fold (put_shown l.rules) l.fn.set.rows (all_rows l.nodes)
