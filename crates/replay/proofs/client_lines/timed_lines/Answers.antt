use Rattle.std.proofs.Common.{◌++◌, ◌∷◌, [], ◌<◌, ◌≤◌, ℕ, List, Global, length, map, ap, sym, ◌∙◌, arith, string_bytes}
use Rattle.std.proofs.lemmas.List.{length-map, map-append}
use Rattle.std.specs.declared.string.String.{String}
use Rattle.replay.specs.declared.seats.Seat.{Seat}
use Rattle.replay.specs.KeptWorlds.{KeptSeat, seat_kept, seated}
use Rattle.replay.proofs.worlds.Seats.{seat-there}
use Rattle.replay.proofs.worlds.TimedSeats.{timing-begins, timing-more, timing-ends}
use Rattle.replay.proofs.client_lines.timed_lines.Goals as goal

abbrev texts_in : List (String Global) → List (List ℕ)
texts_in texts = map (λ (t : String Global). string_bytes t) texts

pub seats-init : goal.seats-init
seats-init c = timing-begins c.args.now c.args.hub.now (seated c.args.seats.now) (texts_in c.new-lines.result.items) (ap texts_in c.new-lines.ensures.items)

pub seats-preserved : goal.seats-preserved
seats-preserved c =
    let place = c.seats.place in
    let later = c.moment_at.new.seats in
    let line = c.in_ok-line.line in
    let within : place < length (seated c.seats.seats) = omega (arith, c.seats-test.true, c.seats.auto.seats, length-map c.seats.seats seat_kept) in
    let there : place < length later = omega (arith, c.seats-test.true, c.seats.auto.seats, c.moment_at.auto.seats) in
    timing-more c.args.now c.args.hub.now c.seats.hub c.moment_at.new.hub (seated c.args.seats.now) (seated c.seats.seats) (seated later) (texts_in c.seats.lines.items) (string_bytes line) (texts_in c.push.new.self.items)
    c.as_str.result.now place c.in_ok-closing.closing within c.in_ok-closing.ensures
    (λ k is. c.as_str.ensures.value ∙ ap (λ (s : Seat). string_bytes s.word) (sym c.index-seats-place.is) ∙ ap (λ (s : KeptSeat). s.word) (seat-there later place c.index-seats-place.result k there c.index-seats-place.is is))
    c.in_ok-line.ensures (ap texts_in c.in_ok-push.ensures.items ∙ map-append (λ (t : String Global). string_bytes t) c.seats.lines.items (line ∷ [])) c.seats.invariant

pub returns : goal.returns
returns c =
    let all : length (seated c.seats.seats) ≤ c.seats.place = omega (arith, c.seats-test.false, c.seats.auto.seats, length-map c.seats.seats seat_kept) in
    timing-ends c.args.now c.args.hub.now c.seats.hub (seated c.args.seats.now) (seated c.seats.seats) (texts_in c.seats.lines.items) c.seats.place all c.seats.invariant
