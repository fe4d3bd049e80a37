use Rattle.std.proofs.Common.{ap, ◌∙◌}
use Rattle.linkreasons.specs.Changing.{have_reasons}
use Rattle.linkreasons.proofs.Calls.{clears, seen-askings, seen-bounds, these}
use Rattle.linkreasons.proofs.link_reasons.LinkReasons.clear.Goals as goal

pub invariant_of-self : goal.invariant_of-self
invariant_of-self c = ((clears c.reasons.ensures.unwanting c.bounds.ensures.reasons c.self.inside.most (these c.self.inside.links.items c.self.inside.sessions.items) c.self.invariant.0 c.args.number c.clear_all.new.links.items c.clear_all.new.sessions.items c.clear_all.ensures.sessions c.clear_all.ensures.links).counted, c.have_reasons-self-inside.ensures ∙ ap have_reasons c.deref.ensures.value)

pub returns-clause-askings : goal.returns-clause-askings
returns-clause-askings c = seen-askings (λ a. a) c.self.inside.most (these c.self.inside.links.items c.self.inside.sessions.items) c.args.self.now (these c.clear_all.new.links.items c.clear_all.new.sessions.items) (clears c.reasons.ensures.unwanting c.bounds.ensures.reasons c.self.inside.most (these c.self.inside.links.items c.self.inside.sessions.items) c.self.invariant.0 c.args.number c.clear_all.new.links.items c.clear_all.new.sessions.items c.clear_all.ensures.sessions c.clear_all.ensures.links) c.self.view_is

pub returns-clause-bounds : goal.returns-clause-bounds
returns-clause-bounds c = seen-bounds (these c.self.inside.links.items c.self.inside.sessions.items) c.args.self.now (these c.clear_all.new.links.items c.clear_all.new.sessions.items) (clears c.reasons.ensures.unwanting c.bounds.ensures.reasons c.self.inside.most (these c.self.inside.links.items c.self.inside.sessions.items) c.self.invariant.0 c.args.number c.clear_all.new.links.items c.clear_all.new.sessions.items c.clear_all.ensures.sessions c.clear_all.ensures.links).bounds c.self.view_is
