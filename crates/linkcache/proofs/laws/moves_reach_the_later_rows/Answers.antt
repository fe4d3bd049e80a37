use Rattle.std.proofs.Common.{subst, sym, T}
use Rattle.linkcache.proofs.Moves.{reached}
use Rattle.linkcache.proofs.laws.moves_reach_the_later_rows.Goals as goal

pub returns : goal.returns
returns c p rows later h g agree = reached p rows later (subst T (sym h) tt) (subst T (sym g) tt) agree
