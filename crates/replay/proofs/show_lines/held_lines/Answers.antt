use Rattle.std.proofs.Common.{◌≡◌, [], codes}
use Rattle.replay.specs.TextWords.{with_records}
use Rattle.replay.specs.KeptWorlds.{seat_kept}
use Rattle.replay.specs.KeptShows.{ShowsSet, showing_of, showing_text}
use Rattle.replay.proofs.worlds.Doing.{if_each}
use Rattle.replay.proofs.shows.SeatShows.{shows-lone, shows-filling, shows-held}
use Rattle.replay.proofs.show_lines.held_lines.Goals as goal

-- a lone client
pub returns-then-seat : goal.returns-then-seat
returns-then-seat c =
    let kept = seat_kept c.args.seat.now in
    let showing = showing_of c.args.word.now c.args.question.now c.args.written.now in
    let rows = c.args.set.now.rows in
    if_each (λ text. text ≡ showing_text showing (with_records (codes "answered") rows)) (ShowsSet kept showing rows) c.set_lines.result (λ text is. shows-lone kept showing rows text c.if-seat.true is) c.set_lines.ensures

-- the first answer hasn't arrived whole
pub returns-then-is_filling : goal.returns-then-is_filling
returns-then-is_filling c =
    let kept = seat_kept c.args.seat.now in
    let showing = showing_of c.args.word.now c.args.question.now c.args.written.now in
    let rows = c.args.set.now.rows in
    if_each (λ text. text ≡ showing_text showing (codes "filling", [])) (ShowsSet kept showing rows) c.state_lines.result
    (λ text is. shows-filling kept showing rows text c.is_filling.result c.if-is_filling.true c.if-seat.false c.is_filling.ensures is) c.state_lines.ensures

-- it has
pub returns : goal.returns
returns c =
    let kept = seat_kept c.args.seat.now in
    let showing = showing_of c.args.word.now c.args.question.now c.args.written.now in
    let rows = c.args.set.now.rows in
    if_each (λ text. text ≡ showing_text showing (with_records (codes "held") rows)) (ShowsSet kept showing rows) c.set_lines-2.result
    (λ text is. shows-held kept showing rows text c.is_filling.result c.if-is_filling.false c.if-seat.false c.is_filling.ensures is) c.set_lines-2.ensures
