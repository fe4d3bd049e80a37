use Rattle.std.proofs.Common.{◌≡◌, ◌++◌, map}
use Rattle.std.specs.List.{AllByRecursion}
use Rattle.linkcache.proofs.moving.planned.Given as goal

abbrev pub invariant-moves : goal.invariant-moves
invariant-moves l = (map (λ r. r.change) l.rows.items ++ l.change-iterator.rest.items ≡ l.fn.moves.items)
    × AllByRecursion (λ r. r.again ≡ r.change.key) l.rows.items
