use Rattle.std.proofs.Common.{sym, subst, arith}
use Rattle.std.specs.Prelude.{ℕ, List, not, ◌==◌}
use Rattle.rrset.proofs.Distinct.{distinct_filter}
use Rattle.hublock.specs.Inside.{AreMarks}
use Rattle.hublock.proofs.marks.Marks.remove.Goals as goal

pub invariant_of-self : goal.invariant_of-self
invariant_of-self c = (
  subst (λ (l : List ℕ). AreMarks l) (sym c.take_out.ensures.rest) (distinct_filter ◌==◌ (λ mark. not (mark == c.args.session)) c.self.inside.sessions.items c.self.invariant.0),
  omega (arith, c.take_out.ensures.room, c.self.invariant.1),
)
