use Rattle.std.proofs.Common.{List, ℕ, refl}
use Rattle.replay.specs.TextWords.{by_notices}
use Rattle.replay.specs.KeptWorlds.{RunsLine}
use Rattle.replay.specs.KeptTwoWorlds.{RunsNear, said_in}
use Rattle.replay.proofs.worlds.Doing.{if_each}
use Rattle.replay.proofs.turn_lines.near_line.Goals as goal

pub returns : goal.returns
returns c =
    let near = c.args.worlds.now.near in
    if_each (λ (text : List ℕ). RunsLine by_notices (said_in near c.args.clients.now c.args.event.now) near text c.event_line.new.world) (λ (text : List ℕ). RunsNear c.args.clients.now c.args.event.now c.args.worlds.now text _) c.event_line.result
    (λ text runs. record { runs = runs; far = refl; apex = refl; order = c.in_ok-note_joining.ensures }) c.event_line.ensures
