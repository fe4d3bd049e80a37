use Rattle.std.proofs.Common.{drop}
use Rattle.browsing.specs.Browsing.{drops_one}
use Rattle.browsing.proofs.Folding.{Folding}
use Rattle.browsing.proofs.asking.drop_all.Given as goal

-- the questions so far, and those that are left
abbrev pub invariant-questions : goal.invariant-questions
invariant-questions l = Folding (drops_one l.fn.needed) l.fn.client l.fn.kept l.fn.asked (drop l.question-index l.fn.asked) l.client l.kept
