use Rattle.std.proofs.Common.{◌≡◌, ◌≤◌, drop}
use Rattle.std.specs.List.{AllByRecursion}
use Rattle.std.specs.Vec.Iter.{into_iter_items}
use Rattle.mirror.specs.Changes.{performed, room_for, Fits}
use Rattle.mirror.proofs.notices.perform_all.Given as goal

-- there is room for the changes that are left, and they do what the notices ahead say
abbrev pub invariant-notices : goal.invariant-notices
invariant-notices l = record {
  room : room_for (into_iter_items l.ready) ≤ l.set.spare;
  fits : AllByRecursion Fits (into_iter_items l.ready);
  rows : performed l.fn.question (drop l.notice-index l.fn.notices) (into_iter_items l.ready) l.set.rows ≡ performed l.fn.question l.fn.notices l.fn.changes.items l.fn.set.rows;
}
