use Rattle.std.proofs.Common.{◌≡◌, drop, fold}
use Rattle.linkcache.specs.Parts.{copied}
use Rattle.linkcache.proofs.touching.copy_all.Given as goal

abbrev pub invariant-entries : goal.invariant-entries
invariant-entries l = fold (λ part e. copied l.rows.rows part e.0) l.part.rows (drop l.key-index l.entries) ≡ fold (λ part e. copied l.rows.rows part e.0) l.fn.part.rows l.entries
