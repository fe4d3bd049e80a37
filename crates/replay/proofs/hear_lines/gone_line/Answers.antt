use Rattle.std.proofs.Common.{◌≡◌, Global, List, ◌∙◌, ap, sym}
use Rattle.std.specs.declared.string.String.{String}
use Rattle.scripts.specs.Events.{link_at}
use Rattle.scripts.specs.KeptLines.{words_of}
use Rattle.scripts.specs.Lines.{Word}
use Rattle.scripts.proofs.lines.Numbers.{link-word}
use Rattle.scripts.specs.declared.line.LinkEvent.TheVariants as link_events
use Rattle.replay.specs.Text.{goes, link_calls, number_or_zero}
use Rattle.replay.specs.KeptWorlds.{parties_of}
use Rattle.replay.proofs.worlds.Doing.{if_acts}
use Rattle.replay.proofs.worlds.HearDoing.{goes-act, gone_written}
use Rattle.replay.proofs.hear_lines.gone_line.Goals as goal

pub returns-in-Ok : goal.returns-in-Ok
returns-in-Ok c = λ w at.
    let world = c.args.world.now in
    let known = parties_of world in
    let is_gone = c.in-Ok.is_gone in
    let word = c.link_word.result.now in
    let told = ap (λ (links : List (String Global)). link_at (words_of links) c.args.link) c.deref.ensures.value in
    let same : word ≡ w = c.link_word.ensures ∙ told ∙ sym (link-word known.links w c.args.link at) in
    if_acts (goes w) (link_calls link_events.Gone w) world.hub c.link_gone_uncounted.new.self known known (gone_written word is_gone) c.gone_text.result
    (λ written is. goes-act world.hub c.link_gone_uncounted.new.self known w c.args.link written is_gone
    (ap number_or_zero (sym at)) c.in-Ok.ensures.ok c.in-Ok.ensures.asks (is ∙ ap (λ (v : Word). gone_written v is_gone) same)) c.gone_text.ensures
