-- One turn of a session, by its output and its standing.
use Rattle.std.proofs.Common.{sym, ap, ◌∙◌}
use Rattle.history.specs.Kept.{state_now as past_state}
use Rattle.pushserver.specs.declared.given.Given.TheVariants.{Bytes}
use Rattle.pushserver.proofs.SessionTurns.{moment-is, output-gave, ended-gave, stopped-gave, stop-gave, some_output, no_output}
use Rattle.pushserver.proofs.turning.take_turn.Goals as goal

pub returns-then-has_output-clause-ok : goal.returns-then-has_output-clause-ok
returns-then-has_output-clause-ok g c = λ kept number seat.
    output-gave number kept c.args.session.now seat.there seat.apart _ c.args.buf.now c.copy.new.buf c.copy.new.self (some_output c.args.session.now c.has_output.result c.has_output.ensures c.if-has_output.true) (ap Bytes c.copy.ensures.count) c.copy.ensures.octets c.copy.ensures.rest

pub returns-in-Ended-clause-ok : goal.returns-in-Ended-clause-ok
returns-in-Ended-clause-ok g c = λ kept number seat.
    ended-gave number kept c.args.session.now seat.there seat.apart c.in-Ended.reason c.args.buf.now (no_output c.args.session.now c.has_output.result c.has_output.ensures c.if-has_output.false) (sym c.standing.ensures ∙ c.in-Ended.is)

pub returns-in-Stopped-clause-ok : goal.returns-in-Stopped-clause-ok
returns-in-Stopped-clause-ok g c = λ kept number seat.
    stopped-gave number kept c.args.session.now seat.there seat.apart c.in-Stopped.field-0 c.args.buf.now (no_output c.args.session.now c.has_output.result c.has_output.ensures c.if-has_output.false) (sym c.standing.ensures ∙ c.in-Stopped.is)

pub returns-in-AskedToStop-clause-ok : goal.returns-in-AskedToStop-clause-ok
returns-in-AskedToStop-clause-ok g c = λ kept number seat.
    stop-gave number kept c.args.session.now seat.there seat.apart c.in-AskedToStop.rcode c.in-AskedToStop.delay c.now.result c.after_reaction.result c.args.buf.now c.after_reaction.new.buf c.carry_out_stop.new.self c.after_reaction.new.session
    (no_output c.args.session.now c.has_output.result c.has_output.ensures c.if-has_output.false) (sym c.standing.ensures ∙ c.in-AskedToStop.is) (moment-is kept (past_state c.args.points.now.past) c.now.result seat.state_is c.now.ensures) c.carry_out_stop.ensures.session
    (record { given_is = c.after_reaction.ensures.given; octets = c.after_reaction.ensures.octets; session = c.after_reaction.ensures.session })
