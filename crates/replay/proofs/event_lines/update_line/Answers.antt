use Rattle.std.proofs.Common.{◌++◌, ◌∷◌, [], codes, decimal}
use Rattle.replay.specs.Text.{updates}
use Rattle.scripts.specs.declared.line.HubEvent.TheVariants as hub_events
use Rattle.replay.specs.LineCalls.{hub_calls}
use Rattle.replay.specs.KeptWorlds.{parties_of}
use Rattle.replay.proofs.worlds.Doing.{if_acts}
use Rattle.replay.proofs.halves.Closing.{updates-print}
use Rattle.replay.proofs.event_lines.update_line.Goals as goal

pub returns : goal.returns
returns c =
    let hub = c.args.world.now.hub in
    let known = parties_of c.args.world.now in
    let later = c.update_code.new.world.hub in
    let known_later = parties_of c.update_code.new.world in
    let message = c.args.message.now in
    let code = c.in_ok-code.code in
    if_acts (updates message) (hub_calls (hub_events.Update message)) hub later known known_later (codes "update " ++ (decimal code ++ 10 ∷ [])) c.update_text.result
    (λ written is. updates-print hub later known known_later message written code c.in_ok-code.ensures is) c.update_text.ensures
