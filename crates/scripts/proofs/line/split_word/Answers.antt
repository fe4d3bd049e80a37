use Rattle.scripts.proofs.lines.Pieces.{word_at, word_alone}
use Rattle.scripts.proofs.line.split_word.Goals as goal

pub returns-in-Some-clause-found : goal.returns-in-Some-clause-found
returns-in-Some-clause-found c = word_at c.args.text.now c.in-Some.end c.in-Some.ensures.place

pub returns-in-None-clause-none : goal.returns-in-None-clause-none
returns-in-None-clause-none c = word_alone c.args.text.now c.in-None.ensures.place
