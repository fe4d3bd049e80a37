use Rattle.std.proofs.Common.{◌++◌, ◌∷◌, [], ap, sym}
use Rattle.scripts.specs.declared.line.LinkEvent.TheVariants as link_events
use Rattle.replay.specs.Text.{heard_words, hears, link_calls, number_or_zero}
use Rattle.replay.specs.KeptWorlds.{parties_of}
use Rattle.replay.proofs.worlds.Doing.{if_acts}
use Rattle.replay.proofs.worlds.HearDoing.{hears-act}
use Rattle.replay.proofs.hear_lines.hear_line.Goals as goal

pub returns-in-Ok : goal.returns-in-Ok
returns-in-Ok c = λ w at.
    let world = c.args.world.now in
    let known = parties_of world in
    let heard = c.in-Ok.heard in
    if_acts (hears w c.args.datagram.now) (link_calls (link_events.Hear c.args.datagram.now) w) world.hub c.hear_uncounted.new.self known known (heard_words heard ++ 10 ∷ []) c.heard_text.result
    (λ written is. hears-act world.hub c.hear_uncounted.new.self known w c.args.link c.args.datagram.now written heard
    (ap number_or_zero (sym at)) c.in-Ok.ensures.ok c.in-Ok.ensures.asks is) c.heard_text.ensures
