use Rattle.std.proofs.Common.{drop}
use Rattle.linkcache.specs.Parts.{laid}
use Rattle.linkcache.specs.Taking.{IsTaken}
use Rattle.linkcache.proofs.HeardSteps.{PutSoFar}
use Rattle.linkcache.proofs.heard_rows.put_usable.Given as goal

abbrev pub invariant-hearing : goal.invariant-hearing
invariant-hearing l = PutSoFar l.rules l.now 0 (laid l.fn.over.rows l.rows.rows) (laid l.over.rows l.rows.rows) (drop l.heard-index l.hearing) l.hearing
    × IsTaken l.rules (laid l.over.rows l.rows.rows) l.taken.rows l.taken.sizes.rows
