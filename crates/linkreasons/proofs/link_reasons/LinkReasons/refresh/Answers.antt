use Rattle.push_base.specs.Cases.{changed_at}
use Rattle.linkreasons.specs.AllReasons.{still_doubted}
use Rattle.linkreasons.proofs.Calls.{doubts-go, seen-askings, seen-bounds, these}
use Rattle.linkreasons.proofs.link_reasons.LinkReasons.refresh.Goals as goal

pub invariant_of-self : goal.invariant_of-self
invariant_of-self c = ((doubts-go c.reasons.ensures.unwanting c.bounds.ensures.reasons c.self.inside.most (these c.self.inside.links.items c.self.inside.sessions.items) c.self.invariant.0 c.args.cache.now.state.rows c.args.link c.refresh_on.new.links.items c.refresh_on.ensures).counted, c.self.invariant.1)

pub returns-clause-askings : goal.returns-clause-askings
returns-clause-askings c = seen-askings (changed_at c.args.link (still_doubted c.args.cache.now.state.rows)) c.self.inside.most (these c.self.inside.links.items c.self.inside.sessions.items) c.args.self.now (these c.refresh_on.new.links.items c.self.inside.sessions.items) (doubts-go c.reasons.ensures.unwanting c.bounds.ensures.reasons c.self.inside.most (these c.self.inside.links.items c.self.inside.sessions.items) c.self.invariant.0 c.args.cache.now.state.rows c.args.link c.refresh_on.new.links.items c.refresh_on.ensures) c.self.view_is

pub returns-clause-bounds : goal.returns-clause-bounds
returns-clause-bounds c = seen-bounds (these c.self.inside.links.items c.self.inside.sessions.items) c.args.self.now (these c.refresh_on.new.links.items c.self.inside.sessions.items) (doubts-go c.reasons.ensures.unwanting c.bounds.ensures.reasons c.self.inside.most (these c.self.inside.links.items c.self.inside.sessions.items) c.self.invariant.0 c.args.cache.now.state.rows c.args.link c.refresh_on.new.links.items c.refresh_on.ensures).bounds c.self.view_is
