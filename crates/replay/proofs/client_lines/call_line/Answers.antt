use Rattle.std.proofs.Common.{◌≡◌, ◌∙◌, string_bytes}
use Rattle.std.proofs.lemmas.List.{with_items_is}
use Rattle.pushclient.specs.Clients.{Client}
use Rattle.replay.specs.Text.{called}
use Rattle.replay.specs.KeptWorlds.{parties_of}
use Rattle.replay.specs.KeptSeats.{Answers}
use Rattle.replay.specs.World.{with_client}
use Rattle.replay.proofs.worlds.Seats.{calls-moved}
use Rattle.replay.proofs.worlds.SeatsDoing.{asks-told}
use Rattle.replay.proofs.client_lines.call_line.Goals as goal

-- what the client answers
pub returns : goal.returns
returns c =
    let w = c.args.word.now in
    let call = c.args.call.now in
    let world = c.args.world.now in
    let place = c.args.client in
    let answer = string_bytes c.in_ok-answer.answer in
    let changed = c.call_at.new.seats in
    let known = c.requires.at in
    let calls = calls-moved (Answers (λ (p : Client). answer ≡ (called call p).0)) (with_client (λ (p : Client). (called call p).1)) world.seats.items c.deref_mut.result.now changed _ place c.deref_mut.ensures.value
    (with_items_is world.seats changed (c.call_at.auto.seats ∙ c.deref_mut.ensures.len)) c.in_ok-answer.ensures in
    asks-told world.hub (parties_of world) _ call w place answer c.as_str.result.now c.call_text.result known calls c.as_str.ensures.value c.call_text.ensures
