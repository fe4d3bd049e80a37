use Rattle.std.proofs.Common.{rules, of_calls, ◌∙◌}
use Rattle.subscr.specs.Named.{kinds_cmp, kinds_of}
use Rattle.subscr.proofs.Ordered.{found_by, position-from_clause}
use Rattle.subscr.proofs.kept.has_kinds.Goals as goal

pub returns : goal.returns
returns c =
    let asks = c.args.asks.now in
    let r = c.binary_search_by.result in
    let position = position-from_clause (λ a. kinds_cmp (kinds_of a) (c.args.kind, c.args.class)) asks r c.binary_search_by.ensures.position (λ a b f k. search (rules, of_calls)) in
    c.is_ok.ensures.value ∙ found_by c.args.kind c.args.class asks r c.requires c.binary_search_by.ensures.bound position
