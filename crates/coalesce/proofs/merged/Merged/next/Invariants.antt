use Rattle.std.proofs.Common.{length}
use Rattle.coalesce.proofs.Merging.{IsMerged}
use Rattle.coalesce.proofs.merged.Merged.next.Given as goal

abbrev pub invariant-values : goal.invariant-values
invariant-values l = IsMerged l.self-inside.values.now l.self-inside.rows.now l.fn.self

abbrev pub decreases-values : goal.decreases-values
decreases-values l = length l.self-inside.values.now
