use Rattle.std.proofs.Common.{◌≡◌}
use Rattle.big_scripts.proofs.Making.{front_of}
use Rattle.big_scripts.proofs.rounds.script_of.Given as goal

abbrev pub invariant-rounds : goal.invariant-rounds
invariant-rounds l = l.script.items ≡ front_of l.before
