use Rattle.scripts.proofs.lines.LineWords.{no_name}
use Rattle.scripts.proofs.line_words.name_of_word.Goals as goal

pub returns-in_default : goal.returns-in_default
returns-in_default c = no_name c.args.text.now c.in_default.ensures.cases.0
