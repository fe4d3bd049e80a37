use Rattle.std.proofs.Common.{[], ◌<◌, length, ap, subst, ◌∙◌, arith, string_bytes}
use Rattle.std.proofs.lemmas.List.{length-map}
use Rattle.replay.specs.TextWords.{by_notices}
use Rattle.replay.specs.Text.{shows}
use Rattle.replay.specs.KeptWorlds.{KeptSeat, seat_kept, seated, parties_of, Acts}
use Rattle.replay.specs.KeptShows.{ShowsSeat, showing_of}
use Rattle.replay.proofs.worlds.Doing.{if_each}
use Rattle.replay.proofs.worlds.Seats.{is-there, seat-there}
use Rattle.replay.proofs.shows.SeatShows.{shows-act}
use Rattle.replay.proofs.show_lines.show_lines.Goals as goal

pub returns : goal.returns
returns c =
    let w = c.args.word.now in
    let q = c.args.question.now in
    let showing = showing_of w q c.args.written.now in
    let world = c.args.world.now in
    let known = parties_of world in
    let seats = world.seats.items in
    let place = c.args.client in
    let seat = c.index.result.now in
    let at = c.requires.at in
    let within : place < length seats = c.requires.within in
    let there : place < length (seated seats) = omega (arith, within, length-map seats seat_kept) in
    let here = is-there (seated seats) place there in
    if_each (ShowsSeat (seat_kept seat) showing) (λ text. Acts (shows by_notices w q c.args.written.now) (λ plain. []) world.hub known text world.hub known) c.seat_lines.result
    (λ text law. shows-act world.hub known showing place here.kept text at here.there
    (subst (λ (k : KeptSeat). ShowsSeat k showing text) (seat-there seats place seat here.kept within c.index.ensures here.there) law)) c.seat_lines.ensures
