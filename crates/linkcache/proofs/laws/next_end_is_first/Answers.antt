use Rattle.std.proofs.Common.{subst, sym, T}
use Rattle.linkcache.proofs.NextEnd.{next_is}
use Rattle.linkcache.proofs.laws.next_end_is_first.Goals as goal

pub returns : goal.returns
returns c deadlines rows are rising ends = next_is deadlines rows are (subst T (sym rising) tt) ends
