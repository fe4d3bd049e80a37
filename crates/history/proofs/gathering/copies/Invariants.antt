use Rattle.std.proofs.Common.{◌≡◌, map, take}
use Rattle.history.proofs.gathering.copies.Given as goal

abbrev pub invariant-changed : goal.invariant-changed
invariant-changed l = l.copies.items ≡ map (λ c. c.now) (take l.change-index l.changed)
