use Rattle.std.proofs.Common.{sym}
use Rattle.scripts.proofs.lines.LineWords.{no_name}
use Rattle.scripts.proofs.line_words.text_of_word.Goals as goal

pub returns-in_default-clause-none : goal.returns-in_default-clause-none
returns-in_default-clause-none c = sym (no_name c.args.text.now c.in_default.ensures.cases.0)
