use Rattle.history.proofs.LinkSlots.{MomentsSoFar}
use Rattle.history.proofs.link_lists.moments.Given as goal

abbrev pub invariant-links : goal.invariant-links
invariant-links l = MomentsSoFar l.fn.links l.links l.now l.plans.items l.index
