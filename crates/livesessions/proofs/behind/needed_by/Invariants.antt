use Rattle.std.proofs.Common.{◌≡◌, drop}
use Rattle.livesessions.specs.Behind.{needed_by}
use Rattle.livesessions.proofs.behind.needed_by.Given as goal

abbrev pub invariant-sessions : goal.invariant-sessions
invariant-sessions l = needed_by l.floor l.needed (drop l.entry-index l.numbered) ≡ needed_by l.floor l.newest l.numbered
