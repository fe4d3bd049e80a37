use Rattle.std.proofs.Common.{◌<◌, ◌++◌, ◌∷◌, [], List, length, get_or, sym, ap, ◌∙◌, arith, codes, string_bytes}
use Rattle.std.proofs.lemmas.List.{length-map}
use Rattle.replay.specs.Text.{opens, opens_lone, opens_hub, by_seat}
use Rattle.replay.specs.declared.seats.Seat.{Seat}
use Rattle.replay.specs.LineCalls.{connect_calls, of_seat, open_calls}
use Rattle.replay.specs.KeptWorlds.{seat_kept, seated, parties_of}
use Rattle.replay.proofs.worlds.Doing.{if_acts, if_then}
use Rattle.replay.proofs.worlds.Seats.{is-there}
use Rattle.replay.proofs.worlds.SeatsDoing.{opens-already, opens-as_lone, opens-as_hub}
use Rattle.replay.proofs.client_lines.open_line.Goals as goal

-- it has a connection
pub returns-then-is_connected_at : goal.returns-then-is_connected_at
returns-then-is_connected_at c =
    let w = c.args.word.now in
    let world = c.args.world.now in
    let seats = world.seats.items in
    let known = parties_of world in
    let place = c.args.client in
    let at = c.requires.at in
    let within : place < length (seated seats) = omega (arith, c.requires.within, length-map seats seat_kept) in
    let here = is-there (seated seats) place within in
    if_acts (opens w) (of_seat open_calls w) world.hub world.hub known known (codes "already " ++ (w ++ 10 ∷ [])) c.already_text.result
    (λ written is. opens-already world.hub known w place here.kept written at here.there
    (λ k seat there stands. sym c.if-is_connected_at.true ∙ c.is_connected_at.ensures k seat (there ∙ ap (λ (l : List Seat). get_or (seated l) place k) (sym c.deref.ensures.value)) stands) is) c.already_text.ensures

-- a lone one opens one
pub returns-then-is_lone_at : goal.returns-then-is_lone_at
returns-then-is_lone_at c =
    let w = c.args.word.now in
    let world = c.args.world.now in
    let seats = world.seats.items in
    let known = parties_of world in
    let place = c.args.client in
    let at = c.requires.at in
    let within : place < length (seated seats) = omega (arith, c.requires.within, length-map seats seat_kept) in
    let here = is-there (seated seats) place within in
    if_then (by_seat opens_lone w) (opens w) (λ plain. []) (of_seat open_calls w) world.hub world.hub c.open_lone.new.world.hub known known (parties_of c.open_lone.new.world) c.open_lone.result
    (λ written does. opens-as_lone world.hub c.open_lone.new.world.hub known (parties_of c.open_lone.new.world) w place here.kept written at here.there
    (λ k seat there stands. sym c.if-is_connected_at.false ∙ c.is_connected_at.ensures k seat (there ∙ ap (λ (l : List Seat). get_or (seated l) place k) (sym c.deref.ensures.value)) stands)
    (λ k there. sym c.if-is_lone_at.true ∙ c.is_lone_at.ensures k (there ∙ ap (λ (l : List Seat). get_or (seated l) place k) (sym c.deref-2.ensures.value))) does)
    (c.open_lone.ensures at)

-- one of the hub opens one
pub returns : goal.returns
returns c =
    let w = c.args.word.now in
    let world = c.args.world.now in
    let seats = world.seats.items in
    let known = parties_of world in
    let place = c.args.client in
    let at = c.requires.at in
    let within : place < length (seated seats) = omega (arith, c.requires.within, length-map seats seat_kept) in
    let here = is-there (seated seats) place within in
    if_then (by_seat opens_hub w) (opens w) (λ plain. connect_calls plain.hub) (of_seat open_calls w) world.hub world.hub c.open_hub.new.world.hub known known (parties_of c.open_hub.new.world) c.open_hub.result
    (λ written does. opens-as_hub world.hub c.open_hub.new.world.hub known (parties_of c.open_hub.new.world) w place here.kept written at here.there
    (λ k seat there stands. sym c.if-is_connected_at.false ∙ c.is_connected_at.ensures k seat (there ∙ ap (λ (l : List Seat). get_or (seated l) place k) (sym c.deref.ensures.value)) stands)
    (λ k there. sym c.if-is_lone_at.false ∙ c.is_lone_at.ensures k (there ∙ ap (λ (l : List Seat). get_or (seated l) place k) (sym c.deref-2.ensures.value))) does)
    (c.open_hub.ensures at)
