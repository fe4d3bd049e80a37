use Rattle.std.proofs.Common.{◌≡◌, [], ◌∷◌, refl, codes, decimal}
use Rattle.pushclient.specs.Clients.{off, asked_only, refused_with}
use Rattle.scripts.specs.Words.{spaced}
use Rattle.replay.specs.TextWords.{ShowTold}
use Rattle.replay.specs.KeptWorlds.{seat_kept}
use Rattle.replay.specs.KeptShows.{ShowsSeat, ShowsSet, showing_of, showing_text}
use Rattle.replay.proofs.worlds.Doing.{if_each}
use Rattle.replay.proofs.shows.SeatShows.{shows-known, shows-set}
use Rattle.replay.proofs.show_lines.seat_lines.Goals as goal

pub returns-in-Off : goal.returns-in-Off
returns-in-Off c =
    let kept = seat_kept c.args.seat.now in
    let showing = showing_of c.args.word.now c.args.question.now c.args.written.now in
    if_each (λ text. text ≡ showing_text showing (codes "off", [])) (ShowsSeat kept showing) c.state_lines.result (λ text is. shows-known kept showing text off (codes "off", []) (λ hub seat. refl) c.in-Off.ensures is) c.state_lines.ensures

pub returns-in-Asked : goal.returns-in-Asked
returns-in-Asked c =
    let kept = seat_kept c.args.seat.now in
    let showing = showing_of c.args.word.now c.args.question.now c.args.written.now in
    if_each (λ text. text ≡ showing_text showing (codes "asked", [])) (ShowsSeat kept showing) c.state_lines-in-Asked.result
    (λ text is. shows-known kept showing text asked_only (codes "asked", []) (λ hub seat. refl) c.in-Asked.ensures is) c.state_lines-in-Asked.ensures

pub returns-in-Refused : goal.returns-in-Refused
returns-in-Refused c =
    let kept = seat_kept c.args.seat.now in
    let showing = showing_of c.args.word.now c.args.question.now c.args.written.now in
    let rcode = c.in-Refused.rcode in
    let told : ShowTold = (spaced (codes "refused" ∷ decimal rcode ∷ []), []) in
    if_each (λ text. text ≡ showing_text showing told) (ShowsSeat kept showing) c.refused_lines.result (λ text is. shows-known kept showing text (refused_with rcode) told (λ hub seat. refl) c.in-Refused.ensures is) c.refused_lines.ensures

pub returns-in-Answered : goal.returns-in-Answered
returns-in-Answered c =
    let kept = seat_kept c.args.seat.now in
    let showing = showing_of c.args.word.now c.args.question.now c.args.written.now in
    let rows = c.in-Answered.set.now.rows in
    if_each (ShowsSet kept showing rows) (ShowsSeat kept showing) c.held_lines.result (λ text law. shows-set kept showing rows text c.in-Answered.ensures law) c.held_lines.ensures
