use Rattle.std.proofs.Common.{ap, ◌∙◌}
use Rattle.linkreasons.specs.Changing.{have_reasons}
use Rattle.linkreasons.proofs.Calls.{takes-back, seen-askings, seen-bounds, these}
use Rattle.linkreasons.proofs.link_reasons.LinkReasons.take_back.Goals as goal

pub invariant_of-self : goal.invariant_of-self
invariant_of-self c = ((takes-back c.reasons.ensures.unwanting c.bounds.ensures.reasons c.self.inside.most (these c.self.inside.links.items c.self.inside.sessions.items) c.self.invariant.0 c.args.number c.take_back_last.new.links.items c.take_back_last.new.sessions.items c.take_back_last.ensures.sessions c.take_back_last.ensures.links).counted, c.have_reasons-self-inside.ensures ∙ ap have_reasons c.deref.ensures.value)

pub returns-clause-askings : goal.returns-clause-askings
returns-clause-askings c = seen-askings (λ a. a) c.self.inside.most (these c.self.inside.links.items c.self.inside.sessions.items) c.args.self.now (these c.take_back_last.new.links.items c.take_back_last.new.sessions.items) (takes-back c.reasons.ensures.unwanting c.bounds.ensures.reasons c.self.inside.most (these c.self.inside.links.items c.self.inside.sessions.items) c.self.invariant.0 c.args.number c.take_back_last.new.links.items c.take_back_last.new.sessions.items c.take_back_last.ensures.sessions c.take_back_last.ensures.links) c.self.view_is

pub returns-clause-bounds : goal.returns-clause-bounds
returns-clause-bounds c = seen-bounds (these c.self.inside.links.items c.self.inside.sessions.items) c.args.self.now (these c.take_back_last.new.links.items c.take_back_last.new.sessions.items) (takes-back c.reasons.ensures.unwanting c.bounds.ensures.reasons c.self.inside.most (these c.self.inside.links.items c.self.inside.sessions.items) c.self.invariant.0 c.args.number c.take_back_last.new.links.items c.take_back_last.new.sessions.items c.take_back_last.ensures.sessions c.take_back_last.ensures.links).bounds c.self.view_is
