use Rattle.scripts.proofs.lines.Pieces.{word_alone}
use Rattle.scripts.proofs.lines.Splits.{one_of_more}
use Rattle.scripts.proofs.line.one_word.Goals as goal

pub returns-in-Some-clause-none : goal.returns-in-Some-clause-none
returns-in-Some-clause-none c = one_of_more c.args.text.now c.in-Some.field-0 c.in-Some.ensures.place

pub returns-in-None-clause-found : goal.returns-in-None-clause-found
returns-in-None-clause-found c = word_alone c.args.text.now c.in-None.ensures.place
