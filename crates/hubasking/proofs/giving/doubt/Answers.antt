-- A doubt is made ready.
use Rattle.std.proofs.Common.{sym, ◌∙◌}
use Rattle.hubasking.proofs.ReadyTurns.{doubt-within, is-doubted, still-doubt}
use Rattle.hubasking.proofs.giving.doubt.Goals as goal

pub returns-in_default-heard_moment-clause-ready : goal.returns-in_default-heard_moment-clause-ready
returns-in_default-heard_moment-clause-ready c =
    still-doubt c.args.hub.now c.args.number c.in-Some.link c.in-Some.key c.args.rr.now c.in_ok-link.field-0 c.args.reasons.now c.homes-homes.result.now c.in-Some-cache.cache.now c.requires.request c.in_ok-link.ensures c.in-Some.is c.homes-homes.ensures c.in-Some-cache.ensures
    (sym c.heard_moment.ensures ∙ c.in_default-heard_moment.is)

pub doubt-requires : goal.doubt-requires
doubt-requires c = doubt-within c.args.hub.now c.args.reasons.now c.in-Some.link c.homes-homes.result.now c.in-Some-cache.cache.now c.requires.kept c.homes-homes.ensures c.in-Some-cache.ensures

pub returns-clause-ready : goal.returns-clause-ready
returns-clause-ready c =
    is-doubted c.args.hub.now c.args.number c.in-Some.link c.in-Some-heard_moment.heard c.in-Some.key c.args.rr.now c.in_ok-link.field-0 c.args.reasons.now c.doubt.new.self c.homes-homes.result.now c.in-Some-cache.cache.now c.requires.request c.in_ok-link.ensures c.in-Some.is c.homes-homes.ensures c.in-Some-cache.ensures
    (sym c.heard_moment.ensures ∙ c.in-Some-heard_moment.is) c.in_ok-doubt.ensures.sessions c.in_ok-doubt.ensures.askings c.doubt.ensures.bounds
