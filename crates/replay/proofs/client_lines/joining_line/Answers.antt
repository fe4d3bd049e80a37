use Rattle.std.proofs.Common.{refl, string_bytes}
use Rattle.replay.specs.KeptWorlds.{parties_of}
use Rattle.replay.proofs.worlds.SeatsDoing.{seat-made}
use Rattle.replay.proofs.client_lines.joining_line.Goals as goal

pub returns : goal.returns
returns c =
    let world = c.args.world.now in
    seat-made world.hub (parties_of world) world.seats.items c.push.new.self.items c.in_ok-seat.seat c.args.word.now c.args.is_lone (string_bytes c.new.result) refl
    c.in_ok-push.ensures.items c.in_ok-seat.ensures c.new.ensures.bytes
