use Rattle.std.proofs.Common.{◌≡◌, ◌++◌, drop}
use Rattle.scripts.specs.KeptLines.{words_of}
use Rattle.scripts.proofs.all_words.Words.copied.Given as goal

-- the copies so far, and the words that are left
abbrev pub invariant-words : goal.invariant-words
invariant-words l = l.copies ++ words_of (drop l.word-index l.fn.words) ≡ words_of l.fn.words
