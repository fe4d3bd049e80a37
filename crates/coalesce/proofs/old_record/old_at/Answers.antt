use Rattle.std.proofs.Common.{ap, sym, ◌∙◌, rules, of_calls}
use Rattle.std.specs.Prelude.{Some}
use Rattle.rrset.specs.Records.{key_cmp}
use Rattle.rrset.specs.declared.record.Key.{Key}
use Rattle.rrset.proofs.Rows.{position-from_clause}
use Rattle.coalesce.specs.Waiting.{OldValue}
use Rattle.coalesce.proofs.OneSide.{stands, goes}
use Rattle.coalesce.proofs.old_record.old_at.Goals as goal

pub returns-in-Ok : goal.returns-in-Ok
returns-in-Ok c =
    let old = c.args.old.now in
    let r = c.binary_search_by.result in
    let position = position-from_clause (λ e. key_cmp e.0 c.args.key.now) old r c.binary_search_by.ensures.position (λ a b f k. search (rules, of_calls)) in
    (stands c.args.key.now old r c.in-Ok.index c.index-old-index.result c.requires c.in-Ok.is c.binary_search_by.ensures.bound position).found ∙ ap (λ (e : Key × OldValue). Some e.1) (sym c.index-old-index.is)

pub returns-in-Err : goal.returns-in-Err
returns-in-Err c =
    let old = c.args.old.now in
    let r = c.binary_search_by.result in
    let position = position-from_clause (λ e. key_cmp e.0 c.args.key.now) old r c.binary_search_by.ensures.position (λ a b f k. search (rules, of_calls)) in
    (goes c.args.key.now old r c.in-Err.field-0 c.requires c.in-Err.is c.binary_search_by.ensures.bound position).none
