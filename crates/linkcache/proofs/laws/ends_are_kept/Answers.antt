use Rattle.linkcache.proofs.RowEnds.{ends_kept}
use Rattle.linkcache.proofs.laws.ends_are_kept.Goals as goal

pub returns : goal.returns
returns c cs deadlines rows are = ends_kept cs deadlines rows are
