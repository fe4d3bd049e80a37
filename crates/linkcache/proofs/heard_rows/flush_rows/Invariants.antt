use Rattle.std.proofs.Common.{◌≡◌, drop, fold}
use Rattle.linkcache.specs.Parts.{with_flushed}
use Rattle.linkcache.proofs.heard_rows.flush_rows.Given as goal

abbrev pub invariant-rows : goal.invariant-rows
invariant-rows l = fold (with_flushed l.now l.heard) l.over.rows (drop l.key-index l.rows) ≡ fold (with_flushed l.now l.heard) l.fn.over.rows l.rows
