use Rattle.std.proofs.Common.{ap, ◌∙◌}
use Rattle.subscr.specs.Asked.{id_of}
use Rattle.subscr.proofs.AskedAt.{id-found}
use Rattle.subscr.proofs.subscriptions.Subscriptions.id_of.Goals as goal

pub returns : goal.returns
returns c =
    c.id_of.ensures
    ∙ id-found c.args.question.now c.self.inside.entries.items _ c.self.invariant.0 (c.self.invariant.1.asks c.args.question.now.name)
    ∙ ap (id_of c.args.question.now) c.self.view_is
