use Rattle.std.proofs.Common.{◌≡◌, drop, filter, fold}
use Rattle.linkcache.specs.Flushed.{AreFlushed}
use Rattle.linkcache.specs.Parts.{laid}
use Rattle.linkcache.specs.Rows.{flushed_by, usable_of}
use Rattle.linkcache.proofs.heard_rows.flush_all.Given as goal

abbrev pub invariant-hearing : goal.invariant-hearing
invariant-hearing l = (fold (flushed_by l.now) (laid l.over.rows l.rows.rows) (filter (λ h. h.flush) (usable_of l.rules (drop l.heard-index l.hearing))) ≡ fold (flushed_by l.now) (laid l.fn.over.rows l.rows.rows) (filter (λ h. h.flush) (usable_of l.rules l.hearing)))
    × AreFlushed l.now l.sets.rows (laid l.over.rows l.rows.rows)
