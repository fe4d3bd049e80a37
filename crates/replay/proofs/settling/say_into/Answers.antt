use Rattle.replay.specs.KeptWorlds.{seat_kept}
use Rattle.replay.proofs.passings.Passings.{say-passes}
use Rattle.replay.proofs.settling.say_into.Goals as goal

pub returns : goal.returns
returns c = λ hub. say-passes c.args.most hub (seat_kept c.args.seat.now) c.give-count.new.self c.give-count.result c.args.buffer.now c.give-count.new.buf c.front_of.result.now c.extend_from_slice.new.self.items c.requires
    c.give-count.ensures.count c.give-count.ensures.octets c.give-count.ensures.given c.front_of.ensures c.in_ok-extend_from_slice.ensures.items
