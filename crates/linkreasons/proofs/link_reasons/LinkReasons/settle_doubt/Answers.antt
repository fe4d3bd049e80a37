use Rattle.std.proofs.Common.{ap, ◌∙◌}
use Rattle.push_base.specs.Cases.{changed_at}
use Rattle.linkreasons.specs.AllReasons.{AllReasons, askings_of}
use Rattle.linkreasons.specs.Changing.{settled_last}
use Rattle.linkreasons.proofs.Calls.{doubt-settles, seen-bounds, these}
use Rattle.linkreasons.proofs.link_reasons.LinkReasons.settle_doubt.Goals as goal

pub invariant_of-self : goal.invariant_of-self
invariant_of-self c = ((doubt-settles c.reasons.ensures.unwanting c.reasons.ensures.anew c.bounds.ensures.reasons c.self.inside.most (these c.self.inside.links.items c.self.inside.sessions.items) c.self.invariant.0 c.args.link c.settle_on.new.links.items c.settle_on.ensures).counted, c.self.invariant.1)

pub returns-clause-askings : goal.returns-clause-askings
returns-clause-askings c = (doubt-settles c.reasons.ensures.unwanting c.reasons.ensures.anew c.bounds.ensures.reasons c.self.inside.most (these c.self.inside.links.items c.self.inside.sessions.items) c.self.invariant.0 c.args.link c.settle_on.new.links.items c.settle_on.ensures).askings ∙ ap (λ (a : AllReasons). changed_at c.args.link settled_last (askings_of a)) c.self.view_is

pub returns-clause-bounds : goal.returns-clause-bounds
returns-clause-bounds c = seen-bounds (these c.self.inside.links.items c.self.inside.sessions.items) c.args.self.now (these c.settle_on.new.links.items c.self.inside.sessions.items) (doubt-settles c.reasons.ensures.unwanting c.reasons.ensures.anew c.bounds.ensures.reasons c.self.inside.most (these c.self.inside.links.items c.self.inside.sessions.items) c.self.invariant.0 c.args.link c.settle_on.new.links.items c.settle_on.ensures).bounds c.self.view_is
