use Rattle.std.proofs.Common.{arith}
use Rattle.std.proofs.lemmas.Result.{err_from_is_err_and}
use Rattle.dnswire.specs.Reading.{question_at}
use Rattle.dnswire.proofs.Sections.{section_turn, section_stop}
use Rattle.dnswire.proofs.section.read_questions.Goals as goal

pub returns-in_err-question : goal.returns-in_err-question
returns-in_err-question c =
    let p = err_from_is_err_and c.from_residual-in_err-question.result c.from_residual-in_err-question.ensures.1 in
    rw (p.1, p.2) (section_stop question_at c.args.message.now c.args.count c.questions._done _ _ _ _ (omega arith) c.in_err-question.ensures c.questions.invariant)

pub questions-preserved : goal.questions-preserved
questions-preserved c =
    rw c.in_ok-push.ensures.ok (section_turn question_at c.args.message.now c.args.count c.questions._done _ _ _ _ _ (omega arith) c.in_ok-question.ensures c.questions.invariant)
