use Rattle.std.proofs.Common.{◌++◌, ◌∷◌, [], ◌∙◌, codes}
use Rattle.std.proofs.lemmas.List.{with_items_is}
use Rattle.replay.specs.World.{cut_seat}
use Rattle.replay.specs.Text.{cuts}
use Rattle.scripts.specs.declared.line.SessionEvent.TheVariants as session_events
use Rattle.replay.specs.LineCalls.{session_calls}
use Rattle.replay.specs.KeptWorlds.{parties_of}
use Rattle.replay.specs.KeptSeats.{HasCut}
use Rattle.replay.proofs.worlds.Doing.{if_acts, cuts-act}
use Rattle.replay.proofs.worlds.Seats.{calls-moved}
use Rattle.replay.proofs.worlds.SeatsDoing.{cuts-seat}
use Rattle.replay.proofs.event_lines.cut_line.Goals as goal

-- a client
pub returns-in-Some : goal.returns-in-Some
returns-in-Some c =
    let w = c.args.word.now in
    let world = c.args.world.now in
    let seats = world.seats.items in
    let known = parties_of world in
    let place = c.in-Some.place in
    let changed = c.cut_at.new.seats in
    let at = c.requires.at ∙ c.in-Some.is in
    let calls = calls-moved (HasCut world.hub c.cut_at.new.hub) cut_seat seats c.deref_mut.result.now changed _ place c.deref_mut.ensures.value
    (with_items_is world.seats changed (c.cut_at.auto.seats ∙ c.deref_mut.ensures.len)) c.cut_at.ensures in
    if_acts (cuts w) (session_calls session_events.Cut w) world.hub c.cut_at.new.hub known _ (codes "cut " ++ (w ++ 10 ∷ [])) c.cut_text.result
    (λ written is. cuts-seat world.hub c.cut_at.new.hub known _ w place written at calls is) c.cut_text.ensures

-- a peer
pub returns-in-None : goal.returns-in-None
returns-in-None c =
    let w = c.args.word.now in
    let world = c.args.world.now in
    let known = parties_of world in
    let known_later = parties_of c.cut.new.self in
    let none = c.requires.at ∙ c.in-None.is in
    if_acts (cuts w) (session_calls session_events.Cut w) world.hub c.cut.new.self.hub known known_later (codes "cut " ++ (w ++ 10 ∷ [])) c.cut_text-in-None.result
    (λ written is. cuts-act world.hub c.cut.new.self.hub known known_later w written none c.cut.ensures is) c.cut_text-in-None.ensures
