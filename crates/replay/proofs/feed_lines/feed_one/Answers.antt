use Rattle.replay.specs.KeptWorlds.{seat_kept}
use Rattle.replay.proofs.worlds.FedDoing.{fed-does, feeds-makes}
use Rattle.replay.proofs.feed_lines.feed_one.Goals as goal

pub returns : goal.returns
returns c =
    let octets = c.args.octets.now in
    let told = c.in_ok-octets.octets.items in
    feeds-makes octets told c.finish-closing.result c.args.hub.now (seat_kept c.args.seat.now) c.hand_out.new.client
    (fed-does c.args.seat.now.client c.deliver.new.client c.hand_out.new.client octets told c.in_ok-deliver.field-0 c.in_ok-deliver.ensures c.in_ok-octets.ensures)
    c.finish-closing.new.hub (seat_kept c.finish-closing.new.seat) c.finish-closing.ensures
