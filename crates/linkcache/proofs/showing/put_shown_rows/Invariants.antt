use Rattle.std.proofs.Common.{◌≡◌, drop, fold}
use Rattle.linkcache.specs.Rows.{put_shown}
use Rattle.linkcache.proofs.showing.put_shown_rows.Given as goal

abbrev pub invariant-rows : goal.invariant-rows
invariant-rows l = fold (put_shown l.rules) l.set.rows (drop l.key-index l.rows) ≡ fold (put_shown l.rules) l.fn.set.rows l.rows
