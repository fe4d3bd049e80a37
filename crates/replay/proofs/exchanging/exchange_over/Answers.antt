use Rattle.std.proofs.Common.{sym, subst}
use Rattle.replay.proofs.exchanges.Emitting.{stepped}
use Rattle.replay.proofs.exchanges.Rounds.{Rounds, rounds-begin, rounds-more, exchanges-last, exchanges-used_up}
use Rattle.replay.proofs.exchanging.exchange_over.Goals as goal

pub rounds-init : goal.rounds-init
rounds-init c = subst (λ answer. Rounds c.args.hub.now c.args.session c.args.octets.now 18446744073709551616 c.args.hub.now c.args.octets.now answer) (sym c.new-answer.ensures.items) (rounds-begin c.args.hub.now c.args.session c.args.octets.now)

pub returns-then-is_done : goal.returns-then-is_done
returns-then-is_done c = exchanges-last c.args.hub.now c.rounds.hub c.take-count.new.self c.emit.new.hub c.args.session c.rounds.left c.take-count.result c.args.octets.now c.rounds.rest.now c.rounds.answer.items c.emit.new.octets.items c.in_ok-emission.emission
    c.rounds.invariant (λ hub stands. (c.take-count.ensures.count hub stands, c.take-count.ensures.hub hub stands, c.take-count.ensures.asking)) c.in_ok-emission.ensures (sym c.if-is_done.ensures.test)

pub returns-then-left-eq0 : goal.returns-then-left-eq0
returns-then-left-eq0 c = exchanges-used_up c.args.hub.now c.emit.new.hub c.args.session c.rounds.left c.args.octets.now _ c.emit.new.octets.items c.if-left-eq0.true
    (rounds-more c.args.hub.now c.rounds.hub c.take-count.new.self c.emit.new.hub c.args.session c.rounds.left c.take-count.result c.args.octets.now c.rounds.rest.now c.rounds.answer.items c.emit.new.octets.items c.in_ok-emission.emission
    c.rounds.invariant (λ hub stands. (c.take-count.ensures.count hub stands, c.take-count.ensures.hub hub stands, c.take-count.ensures.asking)) c.in_ok-emission.ensures (sym c.if-is_done.ensures.test))

pub rounds-preserved : goal.rounds-preserved
rounds-preserved c = subst (λ n. Rounds c.args.hub.now c.args.session c.args.octets.now n c.emit.new.hub c.split_at.result.1.now c.emit.new.octets.items) (stepped c.rounds.left c.if-left-eq0.false)
    (subst (λ rest. Rounds c.args.hub.now c.args.session c.args.octets.now c.rounds.left c.emit.new.hub rest c.emit.new.octets.items) (sym c.split_at.ensures.back)
    (rounds-more c.args.hub.now c.rounds.hub c.take-count.new.self c.emit.new.hub c.args.session c.rounds.left c.take-count.result c.args.octets.now c.rounds.rest.now c.rounds.answer.items c.emit.new.octets.items c.in_ok-emission.emission
    c.rounds.invariant (λ hub stands. (c.take-count.ensures.count hub stands, c.take-count.ensures.hub hub stands, c.take-count.ensures.asking)) c.in_ok-emission.ensures (sym c.if-is_done.ensures.test)))
