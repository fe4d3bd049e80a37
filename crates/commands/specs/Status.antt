-- The numbers of the statuses.
use Rattle.std.specs.Prelude.{ℕ}
use Rattle.scripts.specs.Outcomes.{status_of}
use Rattle.commands.specs.declared.status.Status.{Status}
use Rattle.commands.specs.declared.status.Status.TheVariants.{Usage, OutsideFault, Ended}

abbrev pub code_of : Status → ℕ
code_of Usage = 1
code_of OutsideFault = 6
code_of (Ended outcome) = status_of outcome
