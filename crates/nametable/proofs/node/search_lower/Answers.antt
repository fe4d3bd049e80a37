use Rattle.std.proofs.Common.{rules, of_calls}
use Rattle.dnsname.specs.Names.{lower}
use Rattle.nametable.specs.Nodes.{name_cmp}
use Rattle.nametable.proofs.NodePlaces.{position-from_clause, name_found, name_absent}
use Rattle.nametable.proofs.node.search_lower.Goals as goal

pub returns-clause-found : goal.returns-clause-found
returns-clause-found g c =
    let answer = position-from_clause (λ g. name_cmp g.0 (lower c.args.name.now)) c.args.nodes.now c.binary_search_by.result c.binary_search_by.ensures.position (λ a b f k. search (rules, of_calls, c.requires.first)) in
    name_found (lower c.args.name.now) c.args.nodes.now c.binary_search_by.result c.binary_search_by.ensures.bound answer

pub returns-clause-absent : goal.returns-clause-absent
returns-clause-absent g c =
    let answer = position-from_clause (λ g. name_cmp g.0 (lower c.args.name.now)) c.args.nodes.now c.binary_search_by.result c.binary_search_by.ensures.position (λ a b f k. search (rules, of_calls, c.requires.first)) in
    name_absent (lower c.args.name.now) c.args.nodes.now c.binary_search_by.result c.requires.nodes c.binary_search_by.ensures.bound answer
