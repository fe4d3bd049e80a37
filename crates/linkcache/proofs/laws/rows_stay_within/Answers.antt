use Rattle.std.proofs.Common.{subst, sym, T}
use Rattle.linkcache.proofs.OwnerSizes.{within-heard, within-moment, within-reconfirmed}
use Rattle.linkcache.proofs.laws.rows_stay_within.Goals as goal

pub returns : goal.returns
returns c rules now rows rising sound within = (
  (λ hearing. within-heard rules now hearing rows (subst T (sym rising) tt) sound within),
  within-moment rules now rows within,
  (λ key. within-reconfirmed rules key now rows within),
)
