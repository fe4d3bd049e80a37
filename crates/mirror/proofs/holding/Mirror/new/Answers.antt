use Rattle.std.proofs.Common.{List, sym, subst}
use Rattle.rrset.specs.Tables.{TableState}
use Rattle.rrset.specs.declared.record.Shown.{Shown}
use Rattle.rrset.specs.declared.record.Question.{Question}
use Rattle.rrset.proofs.Distinct.{distinct_none}
use Rattle.mirror.specs.Held.{AreHeld, AreAsked, held_of, is_of}
use Rattle.mirror.proofs.holding.Mirror.new.Goals as goal

pub invariant_of-result : goal.invariant_of-result
invariant_of-result c = (
  subst AreHeld (sym c.new.ensures.items) (distinct_none (λ e f. is_of f.0 e)),
  subst (λ (entries : List (Question × TableState Shown)). AreAsked (held_of entries)) (sym c.new.ensures.items) tt,
)
