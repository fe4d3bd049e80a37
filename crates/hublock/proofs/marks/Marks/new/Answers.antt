use Rattle.std.proofs.Common.{sym, subst}
use Rattle.std.specs.Prelude.{ℕ, List, ◌==◌}
use Rattle.rrset.proofs.Distinct.{distinct_none}
use Rattle.hublock.specs.Inside.{AreMarks}
use Rattle.hublock.proofs.marks.Marks.new.Goals as goal

pub invariant_of-result : goal.invariant_of-result
invariant_of-result c = (subst (λ (l : List ℕ). AreMarks l) (sym c.in_ok-sessions.ensures.items) (distinct_none ◌==◌), c.in_ok-sessions.ensures.capacity)
