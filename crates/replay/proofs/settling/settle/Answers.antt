use Rattle.std.proofs.Common.{true, subst}
use Rattle.replay.specs.KeptWorlds.{seat_kept}
use Rattle.replay.proofs.exchanges.Emitting.{stepped}
use Rattle.replay.proofs.passings.Settlings.{Settling, settling-begins, settling-more, settles-still, settles-used_up, turned}
use Rattle.replay.proofs.settling.settle.Goals as goal

pub rounds-init : goal.rounds-init
rounds-init c = settling-begins c.args.session c.args.hub.now (seat_kept c.args.seat.now)

pub returns-then-not-turn : goal.returns-then-not-turn
returns-then-not-turn c = settles-still c.args.session c.rounds.left c.args.hub.now c.rounds.hub c.round.new.hub (seat_kept c.args.seat.now) (seat_kept c.rounds.seat) (seat_kept c.round.new.seat) c.rounds.over c.in_ok-turn.turn.over c.first_end-over.result c.in_ok-turn.turn.moves
    c.rounds.invariant c.in_ok-turn.ensures c.first_end-over.ensures (turned c.in_ok-turn.turn.moves true c.if-not-turn.true)

pub returns-then-left-eq0 : goal.returns-then-left-eq0
returns-then-left-eq0 c = settles-used_up c.args.session c.rounds.left c.args.hub.now c.round.new.hub (seat_kept c.args.seat.now) (seat_kept c.round.new.seat) c.first_end-over.result c.if-left-eq0.true
    (settling-more c.args.session c.rounds.left c.args.hub.now c.rounds.hub c.round.new.hub (seat_kept c.args.seat.now) (seat_kept c.rounds.seat) (seat_kept c.round.new.seat) c.rounds.over c.in_ok-turn.turn.over c.first_end-over.result c.in_ok-turn.turn.moves
    c.rounds.invariant c.in_ok-turn.ensures c.first_end-over.ensures (turned c.in_ok-turn.turn.moves _ c.if-not-turn.false))

pub rounds-preserved : goal.rounds-preserved
rounds-preserved c = subst (λ n. Settling c.args.session c.args.hub.now (seat_kept c.args.seat.now) n c.round.new.hub (seat_kept c.round.new.seat) c.first_end-over.result) (stepped c.rounds.left c.if-left-eq0.false)
    (settling-more c.args.session c.rounds.left c.args.hub.now c.rounds.hub c.round.new.hub (seat_kept c.args.seat.now) (seat_kept c.rounds.seat) (seat_kept c.round.new.seat) c.rounds.over c.in_ok-turn.turn.over c.first_end-over.result c.in_ok-turn.turn.moves
    c.rounds.invariant c.in_ok-turn.ensures c.first_end-over.ensures (turned c.in_ok-turn.turn.moves _ c.if-not-turn.false))
