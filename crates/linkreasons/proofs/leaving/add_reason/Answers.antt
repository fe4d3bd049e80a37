use Rattle.std.proofs.Common.{ap, ◌∙◌}
use Rattle.std.specs.Prelude.{position, ◌==◌}
use Rattle.linkreasons.specs.AllReasons.{with_reason}
use Rattle.linkreasons.proofs.ManyLinks.{Sessions}
use Rattle.linkreasons.proofs.OneAsked.{on-err, on-ok}
use Rattle.linkreasons.proofs.Seats.{not-there, set-itself, set-seat}
use Rattle.linkreasons.proofs.leaving.add_reason.Goals as goal

pub unreachable-requires : goal.unreachable-requires
unreachable-requires c =
    let none = not-there c.args.number c.args.sessions.now.items (c.in_default.ensures ∙ ap (λ (s : Sessions). position (λ e. e.0 == c.args.number) s) c.deref.ensures.value) in
    let there = c.requires.there in
    absurd cc

pub returns-clause-sessions : goal.returns-clause-sessions
returns-clause-sessions c =
    let at = c.in-Some.ensures ∙ ap (λ (s : Sessions). position (λ e. e.0 == c.args.number) s) c.deref.ensures.value in
    on-ok c.add_one.result
    (λ new. set-seat c.args.number c.args.sessions.now.items c.in-Some.place c.index_mut.result.now c.requires.numbers at c.index_mut.ensures.value (with_reason c.args.reason) c.add_one.new.reasons new)
    c.add_one.ensures.reasons

pub returns-clause-same_sessions : goal.returns-clause-same_sessions
returns-clause-same_sessions c =
    on-err c.add_one.result
    (λ same. set-itself c.args.sessions.now.items c.in-Some.place c.index_mut.result.now c.add_one.new.reasons c.index_mut.ensures.value same)
    c.add_one.ensures.same_reasons
