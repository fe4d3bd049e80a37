use Rattle.std.proofs.Common.{◌≡◌, drop}
use Rattle.push_base.specs.Cases.{first_refusal}
use Rattle.zoneupdate.proofs.refusing.first_refusal.Given as goal

abbrev pub invariant-tests : goal.invariant-tests
invariant-tests l = first_refusal (drop l.refused-index l.tests) ≡ first_refusal l.tests
