use Rattle.std.proofs.Common.{subst, sym}
use Rattle.recordindex.specs.Endings.{AreCounted, HasRoomFor, SuffixesState, names_above, room_of}
use Rattle.recordindex.proofs.Walks.{on_ok, room-kept}
use Rattle.recordindex.proofs.suffixes.Suffixes.reserve_for.Goals as goal

pub returns-clause-room : goal.returns-clause-room
returns-clause-room c = on_ok c.reserve_owner-made.result (λ has owners are.
    has (names_above owners) (subst (λ (s : SuffixesState). AreCounted owners s) (sym c.self.view_is) are).counts) c.reserve_owner-made.ensures.room

pub returns-clause-kept : goal.returns-clause-kept
returns-clause-kept c = λ name room.
    room-kept c.self.inside.endings.entries c.reserve_owner-made.new.endings.entries c.reserve_owner-made.ensures.kept name
    (subst (λ (s : SuffixesState). HasRoomFor name (room_of s.kept)) (sym c.self.view_is) room)
