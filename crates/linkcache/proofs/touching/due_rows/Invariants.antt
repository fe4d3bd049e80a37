use Rattle.std.proofs.Common.{◌≡◌, [], drop, fold}
use Rattle.clockqueue.specs.Deadlines.{due}
use Rattle.linkcache.specs.Parts.{copied}
use Rattle.linkcache.proofs.touching.due_rows.Given as goal

abbrev pub invariant-ends : goal.invariant-ends
invariant-ends l = fold (λ part d. copied l.rows.rows part d.1) l.part.rows (due l.now (drop l.number l.ends.deadlines)) ≡ fold (λ part d. copied l.rows.rows part d.1) [] (due l.now l.ends.deadlines)
