-- Links follow the call.
use Rattle.std.proofs.Common.{sym, subst, ◌≤◌, ℕ}
use Rattle.push_base.specs.Limits.{max_moment}
use Rattle.linkreasons.specs.AllReasons.{askings_of}
use Rattle.pushserver.specs.Calls.{hears}
use Rattle.pushserver.specs.Hubs.{hear}
use Rattle.hubasking.proofs.Calls.{hear-leaves, lowered-same}
use Rattle.hubasking.proofs.HubCalls.{asked-alike, asked-heard, asked-seen, both-same, can-follow-heard, kept-lowered, on_err, stood}
use Rattle.hubasking.proofs.Touching.{hear-still}
use Rattle.hubasking.proofs.hub.Hub.hear_uncounted.Goals as goal

pub lower-requires : goal.lower-requires
lower-requires c = subst (λ (n : ℕ). n ≤ max_moment) (sym c.now-now.ensures.kept) c.self.invariant.timely

pub follow-requires-clause-follows : goal.follow-requires-clause-follows
follow-requires-clause-follows c =
    can-follow-heard c.self.inside.hub c.hear_uncounted.new.self c.self.inside.reasons c.lower.new.reasons c.args.link c.now-now.result c.in_ok-read.read (hear c.self.inside.hub c.args.link c.args.datagram.now).1 (hear c.self.invariant.plain c.args.link c.args.datagram.now).1
    c.self.invariant c.in_ok-heard.ensures.kept.1 (hear-leaves c.self.inside.hub c.args.link c.args.datagram.now c.in_ok-read.read c.in_ok-read.ensures.read) c.now-now.ensures.kept (c.in_ok-heard.ensures.ok c.self.invariant.plain c.self.invariant.stands).1 c.lower.ensures

pub follow-requires-clause-still : goal.follow-requires-clause-still
follow-requires-clause-still c =
    hear-still c.self.inside.hub c.hear_uncounted.new.self c.self.inside.reasons c.lower.new.reasons c.args.link c.now-now.result c.args.datagram.now c.in_ok-read.read c.touched_by_hearing-touched.result c.self.invariant c.in_ok-heard.ensures.kept.1 c.in_ok-read.ensures.read
    c.touched_by_hearing-touched.ensures c.lower.ensures

pub invariant_of-self : goal.invariant_of-self
invariant_of-self c = kept-lowered c.self.inside.hub c.hear_uncounted.new.self c.self.inside.reasons c.lower.new.reasons c.args.link c.now-now.result c.in_ok-read.read c.in_err-heard.ensures.same c.lower.ensures c.self.invariant

pub returns-in_err-heard-clause-err : goal.returns-in_err-heard-clause-err
returns-in_err-heard-clause-err c = on_err c.from_residual-in_err-heard.result (λ hub stands. c.in_err-heard.ensures.err hub (stood c.self.inside.hub c.self.inside.reasons c.args.self.now hub c.self.view_is stands))

pub returns-in_err-heard-clause-same : goal.returns-in_err-heard-clause-same
returns-in_err-heard-clause-same c =
    on_err c.from_residual-in_err-heard.result
    (both-same c.self.inside.hub c.hear_uncounted.new.self c.self.inside.reasons c.lower.new.reasons c.args.self.now c.self.view_is c.in_err-heard.ensures.same (lowered-same c.args.link c.now-now.result c.in_ok-read.read c.self.inside.reasons c.lower.new.reasons c.lower.ensures).1)

pub returns-clause-ok : goal.returns-clause-ok
returns-clause-ok c = λ hub stands. c.in_ok-heard.ensures.ok hub (stood c.self.inside.hub c.self.inside.reasons c.args.self.now hub c.self.view_is stands)

pub returns-clause-kept : goal.returns-clause-kept
returns-clause-kept c = rw (← c.self.view_is) c.in_ok-heard.ensures.kept

pub returns-clause-asking : goal.returns-clause-asking
returns-clause-asking c =
    asked-seen (hears c.args.link c.args.datagram.now) c.self.inside.hub c.self.inside.reasons c.args.self.now (askings_of c.follow.new.reasons) c.self.view_is
    (asked-heard (hear c.self.inside.hub c.args.link c.args.datagram.now).1 c.hear_uncounted.new.self c.self.inside.reasons c.lower.new.reasons c.args.link c.now-now.result c.in_ok-read.read (askings_of c.follow.new.reasons) c.lower.ensures c.in_ok-heard.ensures.kept.1
    c.follow.ensures.askings c.follow.ensures.behind)

pub returns-clause-asks : goal.returns-clause-asks
returns-clause-asks c =
    asked-alike (hears c.args.link c.args.datagram.now) c.self.inside.hub c.hear_uncounted.new.self c.self.inside.reasons c.args.self.now (askings_of c.follow.new.reasons) c.self.view_is
    (asked-heard (hear c.self.inside.hub c.args.link c.args.datagram.now).1 c.hear_uncounted.new.self c.self.inside.reasons c.lower.new.reasons c.args.link c.now-now.result c.in_ok-read.read (askings_of c.follow.new.reasons) c.lower.ensures c.in_ok-heard.ensures.kept.1
    c.follow.ensures.askings c.follow.ensures.behind)
    c.in_ok-heard.ensures.kept.1 (λ hub stands. (c.in_ok-heard.ensures.ok hub stands).1)
