use Rattle.recordindex.proofs.Sweeping.{swept-agrees, swept-low}
use Rattle.recordindex.proofs.suffixes.sweep.Goals as goal

pub returns-clause-low : goal.returns-clause-low
returns-clause-low c = swept-low c.args.endings.now.entries c.drop_unused.new.endings.entries c.requires c.drop_unused.ensures

pub returns-clause-counts : goal.returns-clause-counts
returns-clause-counts c = λ names agrees. swept-agrees names c.args.endings.now.entries c.drop_unused.new.endings.entries c.len.ensures.ordered c.drop_unused.ensures agrees
