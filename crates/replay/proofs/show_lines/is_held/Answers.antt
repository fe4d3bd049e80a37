use Rattle.replay.specs.KeptWorlds.{seat_kept}
use Rattle.replay.proofs.halves.HeldSets.{shown-lone, shown-by}
use Rattle.replay.proofs.show_lines.is_held.Goals as goal

-- a lone client
pub returns-then-seat : goal.returns-then-seat
returns-then-seat c = shown-lone (seat_kept c.args.seat.now) c.args.question.now c.if-seat.true

pub returns : goal.returns
returns c = shown-by (seat_kept c.args.seat.now) c.args.question.now c.is_filling.result c.if-seat.false c.is_filling.ensures
