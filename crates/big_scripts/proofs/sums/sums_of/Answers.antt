use Rattle.big_scripts.proofs.Counting.{begins}
use Rattle.big_scripts.proofs.sums.sums_of.Goals as goal

pub lines-init : goal.lines-init
lines-init c = begins c.args.text.now
