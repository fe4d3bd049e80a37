use Rattle.linkreasons.proofs.PlainQuestions.{plain_are_one, reasons_are_plain}
use Rattle.linkreasons.proofs.laws.reasons_are_plain.Goals as goal

pub returns-clause-one : goal.returns-clause-one
returns-clause-one c = plain_are_one

pub returns-clause-plain : goal.returns-clause-plain
returns-clause-plain c = reasons_are_plain
