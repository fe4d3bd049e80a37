use Rattle.std.proofs.Common.{◌≡◌, drop}
use Rattle.std.specs.Prelude.{fold}
use Rattle.coalesce.specs.Waiting.{before_point, names_waiting, with_old}
use Rattle.coalesce.proofs.queue.keep_each.Given as goal

-- the changes that are left do the rest, and nothing that was kept earlier changed
abbrev pub invariant-changes : goal.invariant-changes
invariant-changes l =
    (fold (with_old l.point) (names_waiting l.names.entries) (drop l.change-index l.changed) ≡ fold (with_old l.point) (names_waiting l.fn.names.entries) l.changed)
    × (before_point l.point (names_waiting l.names.entries) ≡ before_point l.point (names_waiting l.fn.names.entries))
