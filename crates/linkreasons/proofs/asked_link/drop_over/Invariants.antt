use Rattle.std.proofs.Common.{◌≡◌, drop}
use Rattle.std.specs.Prelude.{filter}
use Rattle.linkreasons.specs.Changing.{is_over, questions_of_rows, unwanted_all}
use Rattle.linkreasons.proofs.asked_link.drop_over.Given as goal

abbrev pub invariant-rows : goal.invariant-rows
invariant-rows l = unwanted_all (questions_of_rows (filter (is_over l.cache.state.rows) (drop l.row-index l.rows))) l.asker ≡ unwanted_all (questions_of_rows (filter (is_over l.cache.state.rows) l.rows)) l.fn.asker
