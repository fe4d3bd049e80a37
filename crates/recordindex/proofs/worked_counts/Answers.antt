use Rattle.recordindex.proofs.ThreeOwners.{counts}
use Rattle.recordindex.proofs.worked_counts.Goals as goal

pub returns : goal.returns
returns c = λ os some. counts c.args.root.now.items c.args.example.now.items c.args.below.now.items os c.requires.root c.requires.example c.requires.below some
