use Rattle.std.proofs.Common.{◌≡◌, ◌++◌, ◌∙◌, length, sym, ap, arith}
use Rattle.std.proofs.lemmas.List.Edits.{insert-append_right}
use Rattle.clockqueue.proofs.tier.put_in.Goals as goal

pub returns-then-number-count-clause-items : goal.returns-then-number-count-clause-items
returns-then-number-count-clause-items g c =
    let size : length c.args.front.now.items ≡ c.len-count.result = omega (arith, c.len-count.ensures, c.args.front.now.ok.0) in
    ap (λ l. c.args.front.now.items ++ l) c.insert.ensures.items
    ∙ sym (insert-append_right c.args.front.now.items c.args.back.now.items c.len-count.result c.args.number c.args.entry size (omega (arith, c.if-number-count.true)))
