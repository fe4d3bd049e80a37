use Rattle.std.proofs.Common.{ap, ◌∙◌}
use Rattle.subscr.specs.Asked.{wants}
use Rattle.subscr.specs.Named.{asks_for, asks_of}
use Rattle.subscr.proofs.AskedAt.{any-alike, wants-kept}
use Rattle.subscr.proofs.subscriptions.Subscriptions.wants.Goals as goal

pub returns : goal.returns
returns c =
    c.wants.ensures
    ∙ any-alike _ (asks_of c.args.key.now.owner c.self.inside.entries.items) (c.self.invariant.1.asks c.args.key.now.owner) (asks_for c.args.key.now)
    ∙ wants-kept c.args.key.now c.self.inside.entries.items
    ∙ ap (wants c.args.key.now) c.self.view_is
