use Rattle.std.proofs.Common.{◌<◌, ℕ, Option, IfSome, List, length, get_or, ap, sym, subst, ◌∙◌, arith}
use Rattle.std.proofs.lemmas.List.{length-map}
use Rattle.replay.specs.declared.seats.Seat.{Seat}
use Rattle.replay.specs.KeptWorlds.{seat_kept, seated, parties_of}
use Rattle.replay.proofs.worlds.Doing.{client-session, peer-session}
use Rattle.replay.proofs.worlds.Seats.{is-there}
use Rattle.replay.proofs.event_lines.session_of_word.Goals as goal

-- a client
pub returns-in-Some : goal.returns-in-Some
returns-in-Some c =
    let w = c.args.word.now in
    let world = c.args.world.now in
    let seats = world.seats.items in
    let place = c.in-Some.place in
    let at = c.requires.at ∙ c.in-Some.is in
    let within_items : place < length seats = subst (λ (o : Option ℕ). IfSome o (λ (p : ℕ). p < length seats)) c.in-Some.is c.requires.within in
    let within : place < length (seated seats) = omega (arith, within_items, length-map seats seat_kept) in
    let here = is-there (seated seats) place within in
    client-session world.hub (parties_of world) w place here.kept c.session_at-session.result at here.there
    (c.session_at-session.ensures here.kept (here.there ∙ ap (λ (l : List Seat). get_or (seated l) place here.kept) (sym c.deref.ensures.value)))

-- a peer
pub returns-in-None : goal.returns-in-None
returns-in-None c =
    let w = c.args.word.now in
    let world = c.args.world.now in
    peer-session world.hub (parties_of world) w c.session-session.result
    (c.requires.at ∙ c.in-None.is) c.session-session.ensures
