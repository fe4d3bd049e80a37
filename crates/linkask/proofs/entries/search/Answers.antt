use Rattle.std.proofs.Common.{rules, of_calls}
use Rattle.linkask.specs.Asking.{asked_cmp, asked_for}
use Rattle.linkask.proofs.KeptOrder.{position-from_clause, search_found, search_absent}
use Rattle.linkask.proofs.entries.search.Goals as goal

pub returns-clause-found : goal.returns-clause-found
returns-clause-found c =
    let r = c.binary_search_by.result in
    let answer = position-from_clause (λ e. asked_cmp e.0 (asked_for c.args.name.now c.args.kind)) c.args.entries.now r c.binary_search_by.ensures.position (λ a b f k. search (rules, of_calls)) in
    search_found (asked_for c.args.name.now c.args.kind) c.args.entries.now r c.binary_search_by.ensures.bound answer

pub returns-clause-absent : goal.returns-clause-absent
returns-clause-absent c =
    let r = c.binary_search_by.result in
    let answer = position-from_clause (λ e. asked_cmp e.0 (asked_for c.args.name.now c.args.kind)) c.args.entries.now r c.binary_search_by.ensures.position (λ a b f k. search (rules, of_calls)) in
    search_absent (asked_for c.args.name.now c.args.kind) c.args.entries.now r c.requires c.binary_search_by.ensures.bound answer
