-- Links follow the call.
use Rattle.std.proofs.Common.{◌≡◌, None, sym, ap, ◌∙◌}
use Rattle.linkreasons.specs.AllReasons.{askings_of}
use Rattle.pushserver.specs.Calls.{HubCall, goes, called}
use Rattle.pushserver.specs.Hubs.{link_gone}
use Rattle.hubasking.proofs.Calls.{going-leaves}
use Rattle.hubasking.proofs.HubCalls.{asked-alike, asked-behind, asked-seen, can-follow-call, kept-same, on_err, seen-same, stood}
use Rattle.hubasking.proofs.Touching.{going-still}
use Rattle.hubasking.proofs.hub.Hub.link_gone_uncounted.Goals as goal

pub invariant_of-self : goal.invariant_of-self
invariant_of-self c = kept-same c.self.inside.hub c.link_gone_uncounted.new.self c.self.inside.reasons c.in_err-gone.ensures.same c.self.invariant

pub returns-in_err-gone-clause-err : goal.returns-in_err-gone-clause-err
returns-in_err-gone-clause-err c = on_err c.from_residual.result (λ hub stands. c.in_err-gone.ensures.err hub (stood c.self.inside.hub c.self.inside.reasons c.args.self.now hub c.self.view_is stands))

pub returns-in_err-gone-clause-same : goal.returns-in_err-gone-clause-same
returns-in_err-gone-clause-same c = on_err c.from_residual.result (seen-same c.self.inside.hub c.link_gone_uncounted.new.self c.self.inside.reasons c.args.self.now c.self.view_is c.in_err-gone.ensures.same)

pub follow-requires-clause-follows : goal.follow-requires-clause-follows
follow-requires-clause-follows c =
    can-follow-call c.self.inside.hub ((link_gone c.self.inside.hub c.args.link).1) c.link_gone_uncounted.new.self c.self.inside.reasons (λ hub. (link_gone hub c.args.link).1) c.self.invariant c.in_ok-gone.ensures.kept.1 (going-leaves c.bounds.ensures.going c.self.inside.hub c.args.link) (λ hub stands. (c.in_ok-gone.ensures.ok hub stands).1)

pub follow-requires-clause-still : goal.follow-requires-clause-still
follow-requires-clause-still c = going-still c.self.inside.hub c.link_gone_uncounted.new.self c.self.inside.reasons c.args.link c.self.invariant c.in_ok-gone.ensures.kept.1

pub returns-clause-ok : goal.returns-clause-ok
returns-clause-ok c = λ hub stands. c.in_ok-gone.ensures.ok hub (stood c.self.inside.hub c.self.inside.reasons c.args.self.now hub c.self.view_is stands)

pub returns-clause-kept : goal.returns-clause-kept
returns-clause-kept c = rw (← c.self.view_is) c.in_ok-gone.ensures.kept

pub returns-clause-asking : goal.returns-clause-asking
returns-clause-asking c =
    asked-seen (goes c.args.link) c.self.inside.hub c.self.inside.reasons c.args.self.now (askings_of c.follow.new.reasons) c.self.view_is
    (asked-behind ((link_gone c.self.inside.hub c.args.link).1) c.link_gone_uncounted.new.self (askings_of c.self.inside.reasons) (askings_of c.follow.new.reasons) c.in_ok-gone.ensures.kept.1 c.follow.ensures.askings c.follow.ensures.behind)

pub returns-clause-asks : goal.returns-clause-asks
returns-clause-asks c =
    asked-alike (goes c.args.link) c.self.inside.hub c.link_gone_uncounted.new.self c.self.inside.reasons c.args.self.now (askings_of c.follow.new.reasons) c.self.view_is
    (asked-behind ((link_gone c.self.inside.hub c.args.link).1) c.link_gone_uncounted.new.self (askings_of c.self.inside.reasons) (askings_of c.follow.new.reasons) c.in_ok-gone.ensures.kept.1 c.follow.ensures.askings c.follow.ensures.behind)
    c.in_ok-gone.ensures.kept.1 (λ hub stands. (c.in_ok-gone.ensures.ok hub stands).1)
