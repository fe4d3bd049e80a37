use Rattle.std.proofs.Common.{refl}
use Rattle.replay.specs.World.{joined}
use Rattle.replay.proofs.worlds.Seats.{calls-made}
use Rattle.replay.proofs.seats.join_at.Goals as goal

pub returns : goal.returns
returns c = calls-made (λ s. Unit {0}) (joined c.args.now c.args.session) c.args.seats.now _ c.args.place c.index-seats-place.result c.join_one.new.seat c.requires c.index-seats-place.is refl c.in_ok-join_one.ensures
