use Rattle.std.proofs.Common.{◌≡◌, ℕ, sym, subst}
use Rattle.std.specs.Prelude.{OnOk}
use Rattle.push_base.specs.Cases.{changed_at}
use Rattle.linkreasons.specs.AllReasons.{AllReasons, askings_of, doubted_more}
use Rattle.linkreasons.specs.Counting.{IsAllCounted}
use Rattle.linkreasons.proofs.Calls.{may-doubt, seen-bounds, these}
use Rattle.linkreasons.proofs.link_reasons.LinkReasons.doubt.Goals as goal

pub invariant_of-self : goal.invariant_of-self
invariant_of-self c = (subst (λ (n : ℕ). IsAllCounted n (these c.doubt_on.new.links.items c.self.inside.sessions.items)) (sym c.in_ok-most.ensures.more) (may-doubt c.reasons.ensures.wanting c.bounds.ensures.reasons c.self.inside.most (these c.self.inside.links.items c.self.inside.sessions.items) c.self.invariant.0 c.in_ok-most.ensures.small c.args.link (c.args.key, c.args.heard) c.doubt_on.new.links.items c.doubt_on.result c.doubt_on.ensures.ok c.doubt_on.ensures.err).counted, c.self.invariant.1)

pub returns-clause-askings : goal.returns-clause-askings
returns-clause-askings c = subst (λ (a : AllReasons). OnOk c.doubt_on.result (askings_of (these c.doubt_on.new.links.items c.self.inside.sessions.items) ≡ changed_at c.args.link (doubted_more c.args.key c.args.heard) (askings_of a))) c.self.view_is (may-doubt c.reasons.ensures.wanting c.bounds.ensures.reasons c.self.inside.most (these c.self.inside.links.items c.self.inside.sessions.items) c.self.invariant.0 c.in_ok-most.ensures.small c.args.link (c.args.key, c.args.heard) c.doubt_on.new.links.items c.doubt_on.result c.doubt_on.ensures.ok c.doubt_on.ensures.err).askings

pub returns-clause-bounds : goal.returns-clause-bounds
returns-clause-bounds c = seen-bounds (these c.self.inside.links.items c.self.inside.sessions.items) c.args.self.now (these c.doubt_on.new.links.items c.self.inside.sessions.items) (may-doubt c.reasons.ensures.wanting c.bounds.ensures.reasons c.self.inside.most (these c.self.inside.links.items c.self.inside.sessions.items) c.self.invariant.0 c.in_ok-most.ensures.small c.args.link (c.args.key, c.args.heard) c.doubt_on.new.links.items c.doubt_on.result c.doubt_on.ensures.ok c.doubt_on.ensures.err).bounds c.self.view_is
