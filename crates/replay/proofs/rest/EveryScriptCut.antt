-- In every script each session answers whole messages one after the other, however its octets are cut.
--     answers-every-cut-in      the law
use Rattle.std.proofs.Common.{ℕ, List, ◌++◌}
use Rattle.pushserver.specs.PlainHubs.{Hub}
use Rattle.pushserver.specs.Hubs.{connect}
use Rattle.replay.specs.World.{start_world}
use Rattle.replay.specs.Text.{world_after}
use Rattle.replay.specs.SessionPieces.{AnswersEveryCutIn}
use Rattle.replay.proofs.worlds.BetweenLines.{bounded-between, bounded-connected}
use Rattle.replay.proofs.worlds.InputOctets.{octets-lines, octets-connected}
use Rattle.replay.proofs.rest.Turning.{turns-as-told}
use Rattle.replay.proofs.turns.TurnSizes.{writes-few}
use Rattle.replay.proofs.worlds.Longer.{stays-longer}
use Rattle.replay.proofs.rest.RestingGives.{emits-as-ran}
use Rattle.replay.proofs.rest.EveryCut.{answers-every-cut}

pub answers-every-cut-in : (script : List ℕ) → AnswersEveryCutIn script
unfolding AnswersEveryCutIn
answers-every-cut-in script before behind read =
    let hub : Hub = (world_after before (start_world (before ++ behind))).hub in
    let bounded = bounded-between script before behind read in
    let octets = octets-lines script before behind read in
    let law = answers-every-cut turns-as-told writes-few stays-longer (emits-as-ran turns-as-told writes-few stays-longer) in
    (law hub bounded octets, law (connect hub).1 (bounded-connected hub bounded) (octets-connected hub octets))
