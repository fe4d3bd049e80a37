use Rattle.std.proofs.Common.{refl}
use Rattle.pushclient.specs.Clients.{connected}
use Rattle.replay.specs.World.{with_client}
use Rattle.replay.proofs.worlds.Seats.{calls-made}
use Rattle.replay.proofs.seats.open_at.Goals as goal

pub returns : goal.returns
returns c = calls-made (λ s. Unit {0}) (with_client (connected c.args.now)) c.args.seats.now _ c.args.place c.index-seats-place.result c.open_one.new.seat c.requires c.index-seats-place.is refl c.in_ok-open_one.ensures
