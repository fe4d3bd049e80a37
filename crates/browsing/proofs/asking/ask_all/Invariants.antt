use Rattle.std.proofs.Common.{drop}
use Rattle.browsing.specs.Browsing.{asks_one}
use Rattle.browsing.proofs.Folding.{Folding}
use Rattle.browsing.proofs.asking.ask_all.Given as goal

-- the questions so far, and those that are left
abbrev pub invariant-questions : goal.invariant-questions
invariant-questions l = Folding asks_one l.fn.client l.fn.asked l.fn.needed (drop l.question-index l.fn.needed) l.client l.asked
