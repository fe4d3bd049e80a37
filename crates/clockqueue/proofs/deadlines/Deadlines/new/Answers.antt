use Rattle.std.proofs.Common.{sym, subst}
use Rattle.clockqueue.specs.Deadlines.{AreDeadlines}
use Rattle.clockqueue.proofs.Keyed.{no_deadlines}
use Rattle.clockqueue.proofs.deadlines.Deadlines.new.Goals as goal

pub invariant_of-result : goal.invariant_of-result
invariant_of-result g c = subst (AreDeadlines g.K.Ord.cmp) (sym c.new.ensures) (no_deadlines g.met.K.Ord.total)
