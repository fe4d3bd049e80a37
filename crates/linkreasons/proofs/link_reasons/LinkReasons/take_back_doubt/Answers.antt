use Rattle.push_base.specs.Cases.{changed_at}
use Rattle.linkreasons.specs.AllReasons.{doubted_less}
use Rattle.linkreasons.proofs.Calls.{doubt-goes, seen-askings, seen-bounds, these}
use Rattle.linkreasons.proofs.link_reasons.LinkReasons.take_back_doubt.Goals as goal

pub invariant_of-self : goal.invariant_of-self
invariant_of-self c = ((doubt-goes c.reasons.ensures.unwanting c.bounds.ensures.reasons c.self.inside.most (these c.self.inside.links.items c.self.inside.sessions.items) c.self.invariant.0 c.args.link c.take_back_on.new.links.items c.take_back_on.ensures).counted, c.self.invariant.1)

pub returns-clause-askings : goal.returns-clause-askings
returns-clause-askings c = seen-askings (changed_at c.args.link doubted_less) c.self.inside.most (these c.self.inside.links.items c.self.inside.sessions.items) c.args.self.now (these c.take_back_on.new.links.items c.self.inside.sessions.items) (doubt-goes c.reasons.ensures.unwanting c.bounds.ensures.reasons c.self.inside.most (these c.self.inside.links.items c.self.inside.sessions.items) c.self.invariant.0 c.args.link c.take_back_on.new.links.items c.take_back_on.ensures) c.self.view_is

pub returns-clause-bounds : goal.returns-clause-bounds
returns-clause-bounds c = seen-bounds (these c.self.inside.links.items c.self.inside.sessions.items) c.args.self.now (these c.take_back_on.new.links.items c.self.inside.sessions.items) (doubt-goes c.reasons.ensures.unwanting c.bounds.ensures.reasons c.self.inside.most (these c.self.inside.links.items c.self.inside.sessions.items) c.self.invariant.0 c.args.link c.take_back_on.new.links.items c.take_back_on.ensures).bounds c.self.view_is
