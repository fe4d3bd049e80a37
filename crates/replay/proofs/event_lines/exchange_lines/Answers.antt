use Rattle.std.proofs.Common.{◌++◌, codes, string_bytes}
use Rattle.replay.specs.Text.{exchanges}
use Rattle.replay.specs.TextWords.{end_words}
use Rattle.replay.specs.LineCalls.{exchanges_calls}
use Rattle.replay.specs.KeptWorlds.{parties_of}
use Rattle.replay.proofs.worlds.Doing.{if_acts, two_parts, exchanges-none, exchanges-some}
use Rattle.replay.proofs.event_lines.exchange_lines.Goals as goal

pub returns-in-None : goal.returns-in-None
returns-in-None c =
    exchanges-none c.args.world.now.hub c.exchange.new.hub (parties_of c.args.world.now) c.args.word.now c.args.session c.args.octets.now c.in_ok-octets.field-0.octets.items c.as_slice.result.now (string_bytes c.in_ok-text.text)
    c.in_ok-octets.field-0.over c.in_ok-octets.ensures c.in-None.is c.as_slice.ensures.value c.in_ok-text.ensures

pub returns : goal.returns
returns c =
    let known = parties_of c.args.world.now in
    let known_later = parties_of c.cut.new.self in
    let hub = c.args.world.now.hub in
    let w = c.args.word.now in
    let made = c.in_ok-octets.field-0 in
    let line = string_bytes c.in_ok-text.text in
    if_acts (exchanges w c.args.session c.args.octets.now) (exchanges_calls w c.args.session c.args.octets.now) hub c.cut.new.self.hub known known_later (line ++ (codes "end " ++ two_parts w (end_words c.in-Some.reason))) c.ended_text.result
    (λ written is. exchanges-some hub c.exchange.new.hub c.cut.new.self.hub known known_later w c.args.session c.args.octets.now made.octets.items c.as_slice.result.now line written made.over c.in-Some.reason
    c.in_ok-octets.ensures c.in-Some.is c.cut.ensures c.as_slice.ensures.value c.in_ok-text.ensures is) c.ended_text.ensures
