use Rattle.std.proofs.Common.{drop}
use Rattle.subscriber.proofs.Asking.{IsAsking}
use Rattle.subscriber.proofs.passing.ask_all.Given as goal

-- the questions so far, and those that are left
abbrev pub invariant-questions : goal.invariant-questions
invariant-questions l = IsAsking l.fn.questions (drop l.question-index l.fn.questions) l.client
