-- A reason is made ready.
use Rattle.std.proofs.Common.{◌≡◌, Option, ℕ, subst, sym, ap, ◌∙◌, Some, None}
use Rattle.rrset.specs.declared.record.Question.{Question}
use Rattle.history.specs.Kept.{state_of}
use Rattle.hubasking.specs.Turns.{AsksLink}
use Rattle.hubasking.proofs.ReadyTurns.{has-reason, link-within, reason-there, still-want}
use Rattle.hubasking.proofs.giving.want.Goals as goal

pub returns-in_default-clause-ready : goal.returns-in_default-clause-ready
returns-in_default-clause-ready c =
    still-want c.args.hub.now c.args.number c.args.reasons.now c.args.question.now c.homes-homes.result.now c.requires.request c.homes-homes.ensures
    (subst (λ (o : Option (ℕ × Question)). AsksLink c.args.question.now (state_of c.homes-homes.result.now) o) c.in_default.is c.in_ok-link.ensures)

pub add-requires-clause-link : goal.add-requires-clause-link
add-requires-clause-link c =
    link-within c.args.hub.now c.args.reasons.now c.args.question.now c.in-Some.question c.in-Some.link c.homes-homes.result.now c.requires.kept c.homes-homes.ensures
    (subst (λ (o : Option (ℕ × Question)). AsksLink c.args.question.now (state_of c.homes-homes.result.now) o) c.in-Some.is c.in_ok-link.ensures)

pub add-requires-clause-there : goal.add-requires-clause-there
add-requires-clause-there c = reason-there c.args.hub.now c.args.reasons.now c.args.number _ c.requires.kept c.requires.request

pub returns-clause-ready : goal.returns-clause-ready
returns-clause-ready c =
    has-reason c.args.hub.now c.args.number c.in-Some-first_id.id c.in-Some.link c.args.reasons.now c.add.new.self c.args.question.now c.in-Some.question c.homes-homes.result.now c.requires.request (sym c.first_id.ensures ∙ c.in-Some-first_id.is) c.homes-homes.ensures
    (subst (λ (o : Option (ℕ × Question)). AsksLink c.args.question.now (state_of c.homes-homes.result.now) o) c.in-Some.is c.in_ok-link.ensures) c.in_ok-add.ensures.sessions c.in_ok-add.ensures.askings c.add.ensures.bounds
