use Rattle.std.proofs.Common.{◌≡◌, ◌++◌, ◌∙◌, length, sym, ap, arith}
use Rattle.std.specs.List.{remove}
use Rattle.std.proofs.lemmas.List.Edits.{remove-append_right}
use Rattle.clockqueue.proofs.Queued.{still-queued}
use Rattle.clockqueue.proofs.tier.Tier.remove.Goals as goal

pub returns-then-number-count-clause-items : goal.returns-then-number-count-clause-items
returns-then-number-count-clause-items g c =
    let front = c.self.inside.front.items in
    let size : length front ≡ c.len-count.result = omega (arith, c.len-count.ensures, c.self.inside.front.ok.0) in
    ap (λ l. front ++ l) c.remove.ensures.items
    ∙ sym (remove-append_right front c.self.inside.back.items c.len-count.result c.args.number size (omega (arith, c.if-number-count.true)))
    ∙ ap (λ t. remove t.items c.args.number) c.self.view_is

pub invariant_of-self-2 : goal.invariant_of-self-2
invariant_of-self-2 g c = still-queued c.self.inside.back.items c.take_in.new.back.items c.self.invariant c.take_in.ensures.capacity c.take_in.ensures.full
