use Rattle.std.proofs.Common.{◌≡◌, ℕ, true, sym, ap, subst, ◌∙◌}
use Rattle.std.specs.Prelude.{OnOk}
use Rattle.linkreasons.specs.AllReasons.{AllReasons, askings_of, with_wanted}
use Rattle.linkreasons.specs.Changing.{have_reasons, is_there}
use Rattle.linkreasons.specs.Counting.{IsAllCounted}
use Rattle.linkreasons.proofs.Calls.{may-come, seen-bounds, these}
use Rattle.linkreasons.proofs.link_reasons.LinkReasons.add.Goals as goal

pub invariant_of-self : goal.invariant_of-self
invariant_of-self c = (subst (λ (n : ℕ). IsAllCounted n (these c.add_reason-added.new.links.items c.add_reason-added.new.sessions.items)) (sym c.in_ok-most.ensures.more) (may-come c.reasons.ensures.wanting c.bounds.ensures.reasons c.self.inside.most (these c.self.inside.links.items c.self.inside.sessions.items) c.self.invariant.0 c.in_ok-most.ensures.small c.args.number c.args.reason c.add_reason-added.new.links.items c.add_reason-added.new.sessions.items c.add_reason-added.result (subst (λ (a : AllReasons). is_there c.args.number a.sessions ≡ true) (sym c.self.view_is) c.requires.there) c.add_reason-added.ensures.sessions c.add_reason-added.ensures.links c.add_reason-added.ensures.same_sessions c.add_reason-added.ensures.same_links).counted, c.have_reasons-self-inside.ensures ∙ ap have_reasons c.deref.ensures.value)

pub returns-clause-askings : goal.returns-clause-askings
returns-clause-askings c = subst (λ (a : AllReasons). OnOk c.add_reason-added.result (askings_of (these c.add_reason-added.new.links.items c.add_reason-added.new.sessions.items) ≡ with_wanted c.args.reason.link c.args.reason.question (askings_of a))) c.self.view_is (may-come c.reasons.ensures.wanting c.bounds.ensures.reasons c.self.inside.most (these c.self.inside.links.items c.self.inside.sessions.items) c.self.invariant.0 c.in_ok-most.ensures.small c.args.number c.args.reason c.add_reason-added.new.links.items c.add_reason-added.new.sessions.items c.add_reason-added.result (subst (λ (a : AllReasons). is_there c.args.number a.sessions ≡ true) (sym c.self.view_is) c.requires.there) c.add_reason-added.ensures.sessions c.add_reason-added.ensures.links c.add_reason-added.ensures.same_sessions c.add_reason-added.ensures.same_links).askings

pub returns-clause-bounds : goal.returns-clause-bounds
returns-clause-bounds c = seen-bounds (these c.self.inside.links.items c.self.inside.sessions.items) c.args.self.now (these c.add_reason-added.new.links.items c.add_reason-added.new.sessions.items) (may-come c.reasons.ensures.wanting c.bounds.ensures.reasons c.self.inside.most (these c.self.inside.links.items c.self.inside.sessions.items) c.self.invariant.0 c.in_ok-most.ensures.small c.args.number c.args.reason c.add_reason-added.new.links.items c.add_reason-added.new.sessions.items c.add_reason-added.result (subst (λ (a : AllReasons). is_there c.args.number a.sessions ≡ true) (sym c.self.view_is) c.requires.there) c.add_reason-added.ensures.sessions c.add_reason-added.ensures.links c.add_reason-added.ensures.same_sessions c.add_reason-added.ensures.same_links).bounds c.self.view_is
