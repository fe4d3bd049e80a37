use Rattle.std.proofs.Common.{List, ℕ, refl}
use Rattle.replay.specs.TextWords.{by_notices}
use Rattle.replay.specs.KeptWorlds.{RunsLine}
use Rattle.replay.specs.KeptTwoWorlds.{RunsFar, said_in}
use Rattle.replay.proofs.worlds.Doing.{if_each}
use Rattle.replay.proofs.turn_lines.far_line.Goals as goal

pub returns : goal.returns
returns c =
    let far = c.args.worlds.now.far in
    if_each (λ (text : List ℕ). RunsLine by_notices (said_in far c.args.clients.now c.args.event.now) far text c.event_line.new.world) (λ (text : List ℕ). RunsFar c.args.clients.now c.args.event.now c.args.worlds.now text _) c.event_line.result
    (λ text runs. record { runs = runs; near = refl; apex = refl; order = c.in_ok-note_joining.ensures }) c.event_line.ensures
