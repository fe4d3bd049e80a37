use Rattle.std.proofs.Common.{subst, sym, T}
use Rattle.linkcache.proofs.Touched.{heard-part}
use Rattle.linkcache.proofs.laws.hearings_keep_to_their_owners.Goals as goal

pub returns : goal.returns
returns c rules now hearing rows rising = let part = heard-part rules now hearing rows (subst T (sym rising) tt) in (part.inside, part.outside)
