use Rattle.std.proofs.Common.{ap, ◌∙◌}
use Rattle.linkreasons.specs.Changing.{have_reasons}
use Rattle.linkreasons.proofs.Calls.{session-ends, seen-askings, seen-bounds, these}
use Rattle.linkreasons.proofs.link_reasons.LinkReasons.end.Goals as goal

pub invariant_of-self : goal.invariant_of-self
invariant_of-self c = ((session-ends c.reasons.ensures.unwanting c.bounds.ensures.reasons c.self.inside.most (these c.self.inside.links.items c.self.inside.sessions.items) c.self.invariant.0 c.args.number c.end_session.new.links.items c.end_session.new.sessions.items c.end_session.ensures.sessions c.end_session.ensures.links).counted, c.have_reasons-self-inside.ensures ∙ ap have_reasons c.deref.ensures.value)

pub returns-clause-askings : goal.returns-clause-askings
returns-clause-askings c = seen-askings (λ a. a) c.self.inside.most (these c.self.inside.links.items c.self.inside.sessions.items) c.args.self.now (these c.end_session.new.links.items c.end_session.new.sessions.items) (session-ends c.reasons.ensures.unwanting c.bounds.ensures.reasons c.self.inside.most (these c.self.inside.links.items c.self.inside.sessions.items) c.self.invariant.0 c.args.number c.end_session.new.links.items c.end_session.new.sessions.items c.end_session.ensures.sessions c.end_session.ensures.links) c.self.view_is

pub returns-clause-bounds : goal.returns-clause-bounds
returns-clause-bounds c = seen-bounds (these c.self.inside.links.items c.self.inside.sessions.items) c.args.self.now (these c.end_session.new.links.items c.end_session.new.sessions.items) (session-ends c.reasons.ensures.unwanting c.bounds.ensures.reasons c.self.inside.most (these c.self.inside.links.items c.self.inside.sessions.items) c.self.invariant.0 c.args.number c.end_session.new.links.items c.end_session.new.sessions.items c.end_session.ensures.sessions c.end_session.ensures.links).bounds c.self.view_is
