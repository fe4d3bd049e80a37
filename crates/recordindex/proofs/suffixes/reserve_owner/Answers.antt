use Rattle.std.proofs.Common.{◌+◌, ◌≤◌, ℕ, List, length, get_or, sym, subst, ap, ◌∙◌}
use Rattle.recordindex.specs.Endings.{HasRoomFrom, IsLowLeft, above_of, room_of}
use Rattle.recordindex.proofs.Using.{within-name}
use Rattle.recordindex.proofs.Walks.{low-left, on_ok, room-behind}
use Rattle.recordindex.proofs.suffixes.reserve_owner.Goals as goal

pub above-requires : goal.above-requires
above-requires c = subst (λ (o : List ℕ). get_or o 0 0 + 1 ≤ length o) (sym c.octets.ensures.octets) (within-name c.args.owner.now)

pub reserve-requires : goal.reserve-requires
reserve-requires c = subst IsLowLeft (sym (c.above.ensures ∙ ap above_of c.octets.ensures.octets)) (low-left c.args.owner.now c.octets.ensures.name c.requires)

pub returns-clause-room : goal.returns-clause-room
returns-clause-room c = on_ok c.reserve.result (λ has names agrees.
    room-behind c.args.owner.now (room_of c.reserve.new.endings.entries)
    (subst (λ (o : List ℕ). HasRoomFrom o (room_of c.reserve.new.endings.entries)) (c.above.ensures ∙ ap above_of c.octets.ensures.octets) (has names agrees))) c.reserve.ensures.room
