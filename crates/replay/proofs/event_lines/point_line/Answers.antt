use Rattle.std.proofs.Common.{◌++◌, ◌∷◌, [], codes, decimal}
use Rattle.replay.specs.World.{World}
use Rattle.replay.specs.Text.{Printed, printing}
use Rattle.pushserver.specs.Hubs.{newest, now}
use Rattle.replay.specs.KeptWorlds.{parties_of}
use Rattle.replay.proofs.worlds.Doing.{if_acts, points-act}
use Rattle.replay.proofs.event_lines.point_line.Goals as goal

abbrev prints : World → Printed
prints world = printing (codes "point" ∷ decimal (newest world.hub) ∷ decimal (now world.hub) ∷ []) world

pub returns : goal.returns
returns c =
    let known = parties_of c.args.world.now in
    let hub = c.args.world.now.hub in
    if_acts prints (λ plain. []) hub hub known known (codes "point " ++ (decimal c.point.result ++ 32 ∷ (decimal c.now.result ++ 10 ∷ []))) c.point_text.result
    (λ written is. points-act hub known written c.point.result c.now.result c.point.ensures.hub c.now.ensures.hub is) c.point_text.ensures
