use Rattle.std.proofs.Common.{arith}
use Rattle.std.proofs.lemmas.Grind.{common_steps}
use Rattle.browsing.proofs.asking.are_awaited.Goals as goal

pub questions-preserved : goal.questions-preserved
questions-preserved c = λ plain s.
    let so_far = c.questions.invariant plain s in
    let one = c.is_awaited.ensures plain s in
    grind (arith, common_steps, so_far, one)

pub returns-then-is_awaited : goal.returns-then-is_awaited
returns-then-is_awaited c = λ plain s.
    let so_far = c.questions.invariant plain s in
    let one = c.is_awaited.ensures plain s in
    grind (arith, common_steps, so_far, one)

pub returns : goal.returns
returns c = λ plain s.
    let so_far = c.questions.invariant plain s in
    grind (arith, common_steps, so_far)
