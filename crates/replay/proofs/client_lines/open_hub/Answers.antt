use Rattle.std.proofs.Common.{◌++◌, ◌∷◌, [], ◌∙◌, codes}
use Rattle.std.proofs.lemmas.List.{with_items_is}
use Rattle.replay.specs.Text.{opens_hub, by_seat}
use Rattle.replay.specs.LineCalls.{connect_calls}
use Rattle.replay.specs.KeptWorlds.{parties_of}
use Rattle.replay.specs.World.{joined}
use Rattle.replay.proofs.worlds.Doing.{if_acts, is_err}
use Rattle.replay.proofs.worlds.Seats.{calls-moved}
use Rattle.replay.proofs.worlds.SeatsDoing.{opened-hub, opened-refused}
use Rattle.replay.proofs.client_lines.open_hub.Goals as goal

pub returns-in_ok-join_at-in-Ok : goal.returns-in_ok-join_at-in-Ok
returns-in_ok-join_at-in-Ok c = λ at.
    let w = c.args.word.now in
    let world = c.args.world.now in
    let seats = world.seats.items in
    let known = parties_of world in
    let t = c.now-now.result in
    let number = c.in-Ok.session in
    let changed = c.join_at.new.seats in
    let calls = calls-moved (λ s. Unit {0}) (joined t number) seats c.deref_mut.result.now changed _ c.args.place c.deref_mut.ensures.value
    (with_items_is world.seats changed (c.join_at.auto.seats ∙ c.deref_mut.ensures.len)) c.in_ok-join_at-in-Ok.ensures in
    if_acts (by_seat opens_hub w) (λ plain. connect_calls plain.hub) world.hub c.connect.new.self known _ (codes "open " ++ (w ++ 10 ∷ [])) c.open_text.result
    (λ written is. opened-hub world.hub c.connect.new.self known _ w c.args.place t number written at c.now-now.ensures.hub c.in-Ok.ensures.ok c.in-Ok.ensures.asking calls is) c.open_text.ensures

-- there is no seat in the hub
pub returns-in-Err-NoSeat : goal.returns-in-Err-NoSeat
returns-in-Err-NoSeat c = λ at.
    let w = c.args.word.now in
    let world = c.args.world.now in
    let known = parties_of world in
    if_acts (by_seat opens_hub w) (λ plain. connect_calls plain.hub) world.hub c.connect.new.self known known (codes "noseat " ++ (w ++ 10 ∷ [])) c.noseat_text.result
    (λ written is. opened-refused world.hub c.connect.new.self known w c.args.place written at (c.in-Err-NoSeat.ensures.no_seat (is_err _ _ c.in-Err-NoSeat.field-0-is)) c.in-Err-NoSeat.ensures.asking is) c.noseat_text.ensures
