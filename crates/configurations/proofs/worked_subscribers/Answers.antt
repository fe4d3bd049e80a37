use Rattle.configurations.proofs.WorkedLines.{all_asked, without_question}
use Rattle.configurations.proofs.worked_subscribers.Goals as goal

pub returns-clause-all_lines : goal.returns-clause-all_lines
returns-clause-all_lines c = all_asked

pub returns-clause-without_question : goal.returns-clause-without_question
returns-clause-without_question c = without_question
