use Rattle.std.proofs.Common.{subst, sym, T}
use Rattle.linkcache.proofs.RowEnds.{nothing_before}
use Rattle.linkcache.proofs.laws.nothing_ends_before.Goals as goal

pub returns : goal.returns
returns c deadlines rows now least are rising ends first before = nothing_before deadlines rows now least are (subst T (sym rising) tt) ends first before
