use Rattle.std.proofs.Common.{◌≡◌, Global, List, ◌++◌, ◌∙◌, ap, sym, codes, decimal, string_bytes}
use Rattle.std.specs.declared.string.String.{String}
use Rattle.scripts.specs.Events.{link_at}
use Rattle.scripts.specs.KeptLines.{words_of}
use Rattle.scripts.specs.Lines.{Word}
use Rattle.scripts.proofs.lines.Numbers.{link-word}
use Rattle.replay.specs.TextWords.{by_notices}
use Rattle.replay.specs.Text.{number_or_zero}
use Rattle.replay.specs.KeptWorlds.{parties_of}
use Rattle.replay.proofs.asking.Lines.{asks-act}
use Rattle.replay.proofs.worlds.Doing.{two_parts}
use Rattle.replay.proofs.hear_lines.asks_line.Goals as goal

pub returns : goal.returns
returns c = λ w at.
    let world = c.args.world.now in
    let known = parties_of world in
    let told = string_bytes c.in_ok-count.field-0.lines in
    let word = c.link_word.result.now in
    let there = ap (λ (links : List (String Global)). link_at (words_of links) c.args.link) c.deref.ensures.value in
    let same : word ≡ w = c.link_word.ensures ∙ there ∙ sym (link-word known.links w c.args.link at) in
    let written = c.in_ok-push_str.ensures.bytes ∙ (λ i. c.in_ok-text.ensures i ++ c.as_str.ensures.value i) ∙ ap (λ (v : Word). (codes "asks " ++ two_parts v (decimal c.in_ok-count.field-0.count)) ++ told) same in
    asks-act by_notices world.hub c.ask_all.new.hub known w c.args.link c.in_ok-count.field-0.count told (string_bytes c.push_str.new.self) (ap number_or_zero (sym at)) c.in_ok-count.ensures written
