use Rattle.std.proofs.Common.{◌++◌, ◌∙◌, string_bytes}
use Rattle.std.proofs.lemmas.List.{with_items_is}
use Rattle.replay.specs.Text.{end_lines, passes_way, passes}
use Rattle.replay.specs.LineCalls.{passes_calls, way_calls, with_session}
use Rattle.scripts.specs.Words.{ended_lines}
use Rattle.replay.specs.KeptWorlds.{parties_of}
use Rattle.replay.specs.KeptSeats.{closing_text}
use Rattle.replay.specs.KeptPassings.{way_text}
use Rattle.replay.proofs.worlds.Doing.{if_acts}
use Rattle.replay.proofs.passings.Endings.{passes-act, ends-moved}
use Rattle.replay.proofs.passing_lines.passing_line.Goals as goal

pub returns : goal.returns
returns c =
    let way = c.args.way in
    let w = c.args.word.now in
    let world = c.args.world.now in
    let seats = world.seats.items in
    let known = parties_of world in
    let place = c.args.client in
    let changed = c.pass_at.new.seats in
    let ending = c.in_ok-ending.ending in
    let later = c.pass_at.new.hub in
    let at = c.requires.at in
    let ends = ends-moved (passes_way way) (with_session (way_calls way)) world.hub later seats c.deref_mut.result.now changed _ place ending.count ending.over ending.closing c.deref_mut.ensures.value
    (with_items_is world.seats changed (c.pass_at.auto.seats ∙ c.deref_mut.ensures.len)) c.in_ok-ending.ensures in
    if_acts (passes way w) (passes_calls way w) world.hub later known _ (way_text way w ending.count ++ ended_lines (end_lines w ending.over) ++ closing_text w ending.closing) c.passed_text.result
    (λ written is. passes-act way world.hub later known _ w place ending.count ending.over ending.closing written at ends is) c.passed_text.ensures
