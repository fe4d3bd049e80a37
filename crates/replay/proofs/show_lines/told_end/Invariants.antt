use Rattle.std.proofs.Common.{◌≡◌, drop}
use Rattle.inflight.specs.Ends.{told_end}
use Rattle.replay.proofs.show_lines.told_end.Given as goal

-- none of the first has the ID
abbrev pub invariant-ends : goal.invariant-ends
invariant-ends l = told_end (drop l.told-index l.filled) l.id ≡ told_end l.filled l.id
