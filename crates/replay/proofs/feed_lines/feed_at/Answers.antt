use Rattle.std.proofs.Common.{refl}
use Rattle.replay.specs.KeptFeeds.{HasFed, fed_seat}
use Rattle.replay.proofs.worlds.Seats.{calls-made}
use Rattle.replay.proofs.feed_lines.feed_at.Goals as goal

pub returns : goal.returns
returns c =
    let fed = c.in_ok-fed.fed in
    calls-made (HasFed c.args.octets.now fed.octets.items fed.closing c.args.hub.now c.feed_one.new.hub) (fed_seat c.args.octets.now fed.closing) c.args.seats.now _ c.args.place c.index-seats-place.result c.feed_one.new.seat c.requires c.index-seats-place.is refl
    c.in_ok-fed.ensures
