use Rattle.std.proofs.Common.{◌≡◌, refl, string_bytes}
use Rattle.replay.specs.Text.{called}
use Rattle.replay.specs.KeptSeats.{Answers}
use Rattle.replay.specs.World.{with_client}
use Rattle.replay.proofs.worlds.Seats.{calls-made}
use Rattle.replay.proofs.seats.call_at.Goals as goal

pub returns : goal.returns
returns c =
    let answer = c.in_ok-answer.answer in
    let call = c.args.call.now in
    calls-made (Answers (λ p. string_bytes answer ≡ (called call p).0)) (with_client (λ p. (called call p).1)) c.args.seats.now _ c.args.place c.index-seats-place.result c.call_one.new.seat c.requires c.index-seats-place.is refl c.in_ok-answer.ensures
