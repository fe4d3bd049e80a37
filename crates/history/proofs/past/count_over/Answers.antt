-- The first place that has room.
use Rattle.std.proofs.Common.{◌≡◌, ◌-◌, length, sym, ◌∙◌, arith}
use Rattle.std.proofs.lemmas.List.Sums.{sum_by-take-drop}
use Rattle.history.specs.States.{entry_size}
use Rattle.history.proofs.Floors.{first-room, room-here}
use Rattle.history.proofs.past.count_over.Goals as goal

pub has_room-requires : goal.has_room-requires
has_room-requires c = omega (arith, c.oldest.invariant.0, sum_by-take-drop entry_size c.args.entries.now.items c.oldest.index, c.requires.sum, c.requires.octets)

pub returns-then-has_room-clause-least : goal.returns-then-has_room-clause-least
returns-then-has_room-clause-least c =
    let items = c.args.entries.now.items in
    let count : c.len.result - c.oldest.index ≡ length items - c.oldest.index = omega (arith, c.args.entries.now.ok.0, c.len.ensures) in
    let room = room-here items c.oldest.index (c.len.result - c.oldest.index) c.oldest.left c.args.size count c.oldest.invariant.0 (sym c.has_room.ensures ∙ c.if-has_room.true) in
    first-room items c.oldest.index c.args.size room c.oldest.invariant.1
