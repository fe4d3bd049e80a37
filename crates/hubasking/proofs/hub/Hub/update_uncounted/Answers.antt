-- Links follow the call.
use Rattle.std.proofs.Common.{◌≡◌, None, sym, ap, ◌∙◌}
use Rattle.linkreasons.specs.AllReasons.{askings_of}
use Rattle.pushserver.specs.Calls.{HubCall, updates, called}
use Rattle.pushserver.specs.Hubs.{update}
use Rattle.hubasking.proofs.Calls.{update-leaves}
use Rattle.hubasking.proofs.HubCalls.{asked-alike, asked-behind, asked-seen, can-follow-call, kept-same, on_err, seen-same, stood}
use Rattle.hubasking.proofs.Touching.{update-still}
use Rattle.hubasking.proofs.hub.Hub.update_uncounted.Goals as goal

pub invariant_of-self : goal.invariant_of-self
invariant_of-self c = kept-same c.self.inside.hub c.update_uncounted.new.self c.self.inside.reasons c.in_err-code.ensures.same c.self.invariant

pub returns-in_err-code-clause-err : goal.returns-in_err-code-clause-err
returns-in_err-code-clause-err c = on_err c.from_residual.result (λ hub stands. c.in_err-code.ensures.err hub (stood c.self.inside.hub c.self.inside.reasons c.args.self.now hub c.self.view_is stands))

pub returns-in_err-code-clause-same : goal.returns-in_err-code-clause-same
returns-in_err-code-clause-same c = on_err c.from_residual.result (seen-same c.self.inside.hub c.update_uncounted.new.self c.self.inside.reasons c.args.self.now c.self.view_is c.in_err-code.ensures.same)

pub follow-requires-clause-follows : goal.follow-requires-clause-follows
follow-requires-clause-follows c =
    can-follow-call c.self.inside.hub ((update c.self.inside.hub c.args.message.now).1) c.update_uncounted.new.self c.self.inside.reasons (λ hub. (update hub c.args.message.now).1) c.self.invariant c.in_ok-code.ensures.kept.1 (update-leaves c.self.inside.hub c.args.message.now) (λ hub stands. (c.in_ok-code.ensures.ok hub stands).1)

pub follow-requires-clause-still : goal.follow-requires-clause-still
follow-requires-clause-still c = update-still c.self.inside.hub c.update_uncounted.new.self c.self.inside.reasons c.args.message.now c.self.invariant c.in_ok-code.ensures.kept.1

pub returns-clause-ok : goal.returns-clause-ok
returns-clause-ok c = λ hub stands. c.in_ok-code.ensures.ok hub (stood c.self.inside.hub c.self.inside.reasons c.args.self.now hub c.self.view_is stands)

pub returns-clause-kept : goal.returns-clause-kept
returns-clause-kept c = rw (← c.self.view_is) c.in_ok-code.ensures.kept

pub returns-clause-asking : goal.returns-clause-asking
returns-clause-asking c =
    asked-seen (updates c.args.message.now) c.self.inside.hub c.self.inside.reasons c.args.self.now (askings_of c.follow.new.reasons) c.self.view_is
    (asked-behind ((update c.self.inside.hub c.args.message.now).1) c.update_uncounted.new.self (askings_of c.self.inside.reasons) (askings_of c.follow.new.reasons) c.in_ok-code.ensures.kept.1 c.follow.ensures.askings c.follow.ensures.behind)

pub returns-clause-asks : goal.returns-clause-asks
returns-clause-asks c =
    asked-alike (updates c.args.message.now) c.self.inside.hub c.update_uncounted.new.self c.self.inside.reasons c.args.self.now (askings_of c.follow.new.reasons) c.self.view_is
    (asked-behind ((update c.self.inside.hub c.args.message.now).1) c.update_uncounted.new.self (askings_of c.self.inside.reasons) (askings_of c.follow.new.reasons) c.in_ok-code.ensures.kept.1 c.follow.ensures.askings c.follow.ensures.behind)
    c.in_ok-code.ensures.kept.1 (λ hub stands. (c.in_ok-code.ensures.ok hub stands).1)
