use Rattle.std.proofs.Common.{ap, ◌∙◌}
use Rattle.linkreasons.specs.AllReasons.{but_last}
use Rattle.linkreasons.specs.Changing.{last_of}
use Rattle.linkreasons.proofs.SessionParts.{popped}
use Rattle.linkreasons.proofs.reasons.Reasons.pop.Goals as goal

pub returns-clause-left : goal.returns-clause-left
returns-clause-left c = (popped c.self.inside.items.items c.pop.new.self.items c.pop.result _ _ c.pop.ensures.items c.pop.ensures.rest c.pop.ensures.cases).0 ∙ ap but_last c.self.view_is

pub returns-clause-last : goal.returns-clause-last
returns-clause-last c = (popped c.self.inside.items.items c.pop.new.self.items c.pop.result _ _ c.pop.ensures.items c.pop.ensures.rest c.pop.ensures.cases).1 ∙ ap last_of c.self.view_is
