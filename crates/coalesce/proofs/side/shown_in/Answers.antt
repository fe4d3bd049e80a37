use Rattle.std.proofs.Common.{rules, of_calls}
use Rattle.rrset.specs.Records.{key_cmp}
use Rattle.rrset.proofs.Rows.{position-from_clause}
use Rattle.coalesce.proofs.OneSide.{stands, goes}
use Rattle.coalesce.proofs.side.shown_in.Goals as goal

pub returns-in-Ok : goal.returns-in-Ok
returns-in-Ok c =
    let rows = c.args.rows.now in
    let r = c.binary_search_by.result in
    let position = position-from_clause (λ e. key_cmp e.0 c.args.key.now) rows r c.binary_search_by.ensures.position (λ a b f k. search (rules, of_calls)) in
    (stands c.args.key.now rows r c.in-Ok.index c.index-rows-index.result c.requires c.in-Ok.is c.binary_search_by.ensures.bound position).found

pub returns-in-Err : goal.returns-in-Err
returns-in-Err c =
    let rows = c.args.rows.now in
    let r = c.binary_search_by.result in
    let position = position-from_clause (λ e. key_cmp e.0 c.args.key.now) rows r c.binary_search_by.ensures.position (λ a b f k. search (rules, of_calls)) in
    (goes c.args.key.now rows r c.in-Err.field-0 c.requires c.in-Err.is c.binary_search_by.ensures.bound position).none
