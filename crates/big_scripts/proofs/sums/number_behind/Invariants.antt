use Rattle.std.proofs.Common.{◌≡◌, length}
use Rattle.scripts.specs.Lines.{words_in}
use Rattle.big_scripts.specs.Sums.{number_behind as number_in}
use Rattle.big_scripts.proofs.sums.number_behind.Given as goal

abbrev pub invariant-words : goal.invariant-words
invariant-words l = number_in l.name (words_in l.rest) ≡ number_in l.fn.name (words_in l.fn.line)

-- each turn takes a word
abbrev pub decreases-words : goal.decreases-words
decreases-words l = length (words_in l.rest)
