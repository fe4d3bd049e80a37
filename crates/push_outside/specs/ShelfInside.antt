-- What the fields of a shelf stand for.
--     shelf_state, HasRoom      what it is seen as; that its room was made
use Rattle.std.specs.Prelude.{◌+◌, ◌≤◌}
use Rattle.std.specs.Vec.{vec_len, vec_capacity}
use Rattle.push_outside.specs.Shelves.{ShelfState}
use Rattle.push_outside.specs.declared.shelf.Shelf.TheInside.{Inside}

abbrev pub shelf_state : {T : Type 0} → Inside T → ShelfState T
shelf_state s = record { items = s.items.items; room = s.room; lost = s.lost }

abbrev pub HasRoom : {T : Type 0} → Inside T → Type 0
HasRoom s = vec_len s.items + s.room ≤ vec_capacity s.items
