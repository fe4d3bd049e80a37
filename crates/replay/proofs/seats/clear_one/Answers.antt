use Rattle.replay.specs.KeptWorlds.{seat_kept}
use Rattle.replay.proofs.worlds.Seats.{cut-makes, cut_kept}
use Rattle.replay.proofs.seats.clear_one.Goals as goal

pub returns : goal.returns
returns c = cut-makes (seat_kept c.args.seat.now) _ c.cut.new.self (λ i. record (cut_kept (seat_kept c.args.seat.now) c.cut.new.self) { up_wire = c.clear.ensures.items i; down_wire = c.clear-2.ensures.items i; filled = c.clear-3.ensures.items i }) c.cut.ensures
