use Rattle.std.proofs.Common.{subst, sym, T}
use Rattle.linkcache.proofs.DueRows.{due-rows_go}
use Rattle.linkcache.proofs.laws.due_rows_go.Goals as goal

pub returns : goal.returns
returns c now deadlines rows are rising ends = due-rows_go now deadlines rows are (subst T (sym rising) tt) ends
