use Rattle.std.proofs.Common.{ap, sym, subst, ◌∙◌}
use Rattle.subscr.specs.ByName.{noted_at}
use Rattle.subscr.specs.Named.{AreOrdered}
use Rattle.subscr.proofs.Noting.{none_noted, was_noted}
use Rattle.subscr.proofs.named.Named.at.Goals as goal

pub returns-in-Some-clause-noted : goal.returns-in-Some-clause-noted
returns-in-Some-clause-noted c =
    c.deref.ensures.value
    ∙ c.asks.view_is
    ∙ was_noted c.args.name.now c.self.inside.names c.in-Some.asks.now (sym c.in-Some.ensures.value)
    ∙ ap (noted_at c.args.name.now) c.self.view_is

pub returns-in-None-clause-noted : goal.returns-in-None-clause-noted
returns-in-None-clause-noted c = none_noted c.args.name.now c.self.inside.names (sym c.in-None.ensures.value) ∙ ap (noted_at c.args.name.now) c.self.view_is

pub returns-in-Some-clause-ordered : goal.returns-in-Some-clause-ordered
returns-in-Some-clause-ordered c = subst AreOrdered (sym c.deref.ensures.value) c.asks.invariant
