use Rattle.std.proofs.Common.{◌++◌, ◌∷◌, [], ◌∙◌, codes}
use Rattle.std.proofs.lemmas.List.{with_items_is}
use Rattle.pushclient.specs.Clients.{connected}
use Rattle.replay.specs.Text.{opens_lone, by_seat}
use Rattle.replay.specs.KeptWorlds.{parties_of}
use Rattle.replay.specs.World.{with_client}
use Rattle.replay.proofs.worlds.Doing.{if_acts}
use Rattle.replay.proofs.worlds.Seats.{calls-moved}
use Rattle.replay.proofs.worlds.SeatsDoing.{opened-lone}
use Rattle.replay.proofs.client_lines.open_lone.Goals as goal

pub returns : goal.returns
returns c = λ at.
    let w = c.args.word.now in
    let world = c.args.world.now in
    let seats = world.seats.items in
    let known = parties_of world in
    let t = c.now-now.result in
    let changed = c.open_at.new.seats in
    let calls = calls-moved (λ s. Unit {0}) (with_client (connected t)) seats c.deref_mut.result.now changed _ c.args.place c.deref_mut.ensures.value
    (with_items_is world.seats changed (c.open_at.auto.seats ∙ c.deref_mut.ensures.len)) c.in_ok-open_at.ensures in
    if_acts (by_seat opens_lone w) (λ plain. []) world.hub world.hub known _ (codes "open " ++ (w ++ 10 ∷ [])) c.open_text.result
    (λ written is. opened-lone world.hub known _ w c.args.place t written at c.now-now.ensures.hub calls is) c.open_text.ensures
