use Rattle.std.proofs.Common.{◌≡◌, take}
use Rattle.history.proofs.plan.copy_changed.Given as goal

abbrev pub invariant-changed : goal.invariant-changed
invariant-changed l = l.copy.items ≡ take l.change-index l.changed
