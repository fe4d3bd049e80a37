use Rattle.std.proofs.Common.{true, ap, sym, ◌∙◌}
use Rattle.subscr.specs.Asked.{watches}
use Rattle.subscr.specs.Named.{asks_of}
use Rattle.subscr.proofs.AskedAt.{any-alike, some-any, watches-kept}
use Rattle.subscr.proofs.subscriptions.Subscriptions.watches.Goals as goal

pub returns : goal.returns
returns c =
    let asks = asks_of c.args.name.now c.self.inside.entries.items in
    c.watches.ensures
    ∙ some-any _
    ∙ any-alike _ asks (c.self.invariant.1.asks c.args.name.now) (λ ask. true)
    ∙ sym (some-any asks)
    ∙ watches-kept c.args.name.now c.self.inside.entries.items
    ∙ ap (watches c.args.name.now) c.self.view_is
