use Rattle.subscriber.proofs.WorkedTexts.{row, cut, one_message, two_reads}
use Rattle.subscriber.proofs.laws.worked_texts.Goals as goal

pub returns-clause-row : goal.returns-clause-row
returns-clause-row c = row

pub returns-clause-cut : goal.returns-clause-cut
returns-clause-cut c = cut

pub returns-clause-messages : goal.returns-clause-messages
returns-clause-messages c = one_message

pub returns-clause-turns : goal.returns-clause-turns
returns-clause-turns c = two_reads
