-- A link is asked.
use Rattle.std.proofs.Common.{◌≡◌, ℕ, List, Bool, true, false, cond, Option, Some, None, sym, ap, ◌∙◌, refl, arith}
use Rattle.linkreasons.specs.AllReasons.{askings_of}
use Rattle.hubasking.proofs.Sending.{asked-not, asked-so, bounds-at, found-some, front-so, rest-so, sent-so}
use Rattle.hubasking.proofs.asking.ask_link.Goals as goal

pub ask-requires-clause-bounds : goal.ask-requires-clause-bounds
ask-requires-clause-bounds c = bounds-at c.args.hub.now c.args.reasons.now c.homes-homes.result.now c.args.link c.in-Some.cache.now c.requires.kept c.homes-homes.ensures c.in-Some.ensures

pub returns-in_err-ask-clause-kept : goal.returns-in_err-ask-clause-kept
returns-in_err-ask-clause-kept c =
    asked-not c.args.hub.now c.args.reasons.now c.ask.new.self c.homes-homes.result.now c.args.link c.in-Some.cache.now c.requires.kept c.homes-homes.ensures c.in-Some.ensures c.ask.ensures.sessions c.in_err-ask.ensures.err c.ask.ensures.bounds c.ask.ensures.others

pub returns-then-not-branch-clause-kept : goal.returns-then-not-branch-clause-kept
returns-then-not-branch-clause-kept c =
    asked-so c.args.hub.now c.args.reasons.now c.ask.new.self c.homes-homes.result.now c.args.link c.now.result c.in-Some.cache.now _ c.requires.kept c.homes-homes.ensures c.in-Some.ensures c.ask.ensures.sessions c.in_ok-ask.ensures.ok c.ask.ensures.bounds c.ask.ensures.others

pub returns-clause-kept : goal.returns-clause-kept
returns-clause-kept c =
    asked-so c.args.hub.now c.args.reasons.now c.ask.new.self c.homes-homes.result.now c.args.link c.now.result c.in-Some.cache.now _ c.requires.kept c.homes-homes.ensures c.in-Some.ensures c.ask.ensures.sessions c.in_ok-ask.ensures.ok c.ask.ensures.bounds c.ask.ensures.others

pub returns-clause-asked : goal.returns-clause-asked
returns-clause-asked c =
    ap (λ (l : List ℕ). (Some l, askings_of c.ask.new.self)) (front-so c.len.result c.deref.result.now c.ask.new.out.items c.put_front.new.buf _ (omega (arith, c.len.ensures, c.deref.ensures.len)) c.deref.ensures.value c.put_front.ensures)
    ∙ sent-so c.args.hub.now c.args.reasons.now c.ask.new.self c.homes-homes.result.now c.args.link c.now.result c.in-Some.cache.now (Some c.ask.new.out.items) c.homes-homes.ensures c.in-Some.ensures c.now.ensures.kept
    (found-some c.in_ok-ask.field-0 c.ask.new.out.items (askings_of c.ask.new.self) _ c.if-not-branch.false c.in_ok-ask.ensures.ok)

pub returns-clause-rest : goal.returns-clause-rest
returns-clause-rest c = rest-so c.len.result c.deref.result.now c.args.buf.now c.put_front.new.buf (omega (arith, c.len.ensures, c.deref.ensures.len)) c.put_front.ensures
