-- Links follow the call.
use Rattle.std.proofs.Common.{◌≡◌, None, sym, ap, ◌∙◌}
use Rattle.linkreasons.specs.AllReasons.{askings_of}
use Rattle.pushserver.specs.Calls.{HubCall, moves, called}
use Rattle.pushserver.specs.Hubs.{moment}
use Rattle.hubasking.proofs.Calls.{moment-leaves}
use Rattle.hubasking.proofs.HubCalls.{asked-alike, asked-behind, asked-seen, can-follow-call, kept-same, on_err, seen-same, stood}
use Rattle.hubasking.proofs.Touching.{moment-still}
use Rattle.hubasking.proofs.hub.Hub.moment_uncounted.Goals as goal

pub invariant_of-self : goal.invariant_of-self
invariant_of-self c = kept-same c.self.inside.hub c.moment_uncounted.new.self c.self.inside.reasons c.in_err-moment_uncounted.ensures.same c.self.invariant

pub returns-in_err-moment_uncounted-clause-err : goal.returns-in_err-moment_uncounted-clause-err
returns-in_err-moment_uncounted-clause-err c = on_err c.from_residual.result (λ hub stands. c.in_err-moment_uncounted.ensures.err hub (stood c.self.inside.hub c.self.inside.reasons c.args.self.now hub c.self.view_is stands))

pub returns-in_err-moment_uncounted-clause-same : goal.returns-in_err-moment_uncounted-clause-same
returns-in_err-moment_uncounted-clause-same c = on_err c.from_residual.result (seen-same c.self.inside.hub c.moment_uncounted.new.self c.self.inside.reasons c.args.self.now c.self.view_is c.in_err-moment_uncounted.ensures.same)

pub follow-requires-clause-follows : goal.follow-requires-clause-follows
follow-requires-clause-follows c =
    can-follow-call c.self.inside.hub (moment c.self.inside.hub c.args.at) c.moment_uncounted.new.self c.self.inside.reasons (λ hub. moment hub c.args.at) c.self.invariant c.in_ok-moment_uncounted.ensures.kept (moment-leaves c.bounds.ensures.ending c.self.inside.hub c.args.at c.requires) (λ hub stands. c.in_ok-moment_uncounted.ensures.ok hub stands)

pub follow-requires-clause-still : goal.follow-requires-clause-still
follow-requires-clause-still c = moment-still c.self.inside.hub c.moment_uncounted.new.self c.self.inside.reasons c.args.at c.touched_by-touched.result c.self.invariant c.in_ok-moment_uncounted.ensures.kept c.touched_by-touched.ensures

pub returns-clause-ok : goal.returns-clause-ok
returns-clause-ok c = λ hub stands. c.in_ok-moment_uncounted.ensures.ok hub (stood c.self.inside.hub c.self.inside.reasons c.args.self.now hub c.self.view_is stands)

pub returns-clause-kept : goal.returns-clause-kept
returns-clause-kept c = rw (← c.self.view_is) c.in_ok-moment_uncounted.ensures.kept

pub returns-clause-asking : goal.returns-clause-asking
returns-clause-asking c =
    asked-seen (moves c.args.at) c.self.inside.hub c.self.inside.reasons c.args.self.now (askings_of c.follow.new.reasons) c.self.view_is
    (asked-behind (moment c.self.inside.hub c.args.at) c.moment_uncounted.new.self (askings_of c.self.inside.reasons) (askings_of c.follow.new.reasons) c.in_ok-moment_uncounted.ensures.kept c.follow.ensures.askings c.follow.ensures.behind)

pub returns-clause-asks : goal.returns-clause-asks
returns-clause-asks c =
    asked-alike (moves c.args.at) c.self.inside.hub c.moment_uncounted.new.self c.self.inside.reasons c.args.self.now (askings_of c.follow.new.reasons) c.self.view_is
    (asked-behind (moment c.self.inside.hub c.args.at) c.moment_uncounted.new.self (askings_of c.self.inside.reasons) (askings_of c.follow.new.reasons) c.in_ok-moment_uncounted.ensures.kept c.follow.ensures.askings c.follow.ensures.behind)
    c.in_ok-moment_uncounted.ensures.kept (λ hub stands. c.in_ok-moment_uncounted.ensures.ok hub stands)
