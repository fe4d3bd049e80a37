use Rattle.std.proofs.Common.{sym, ◌∙◌}
use Rattle.scripts.proofs.lines.LineWords.{word_utf8}
use Rattle.scripts.proofs.line_words.plain_word.Goals as goal

pub returns-in_default : goal.returns-in_default
returns-in_default c = absurd (c.in_default.ensures.cases.0 (word_utf8 c.args.text.now (sym c.are_letters_and_digits.ensures ∙ c.if-not-are_letters_and_digits.false)))
