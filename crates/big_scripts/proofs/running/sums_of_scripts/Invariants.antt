use Rattle.std.proofs.Common.{◌≡◌, ◌/◌}
use Rattle.big_scripts.proofs.Totals.{IsSummed}
use Rattle.big_scripts.proofs.running.sums_of_scripts.Given as goal

abbrev pub invariant-scripts : goal.invariant-scripts
invariant-scripts l = IsSummed l.counter l.sums
