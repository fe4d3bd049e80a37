use Rattle.std.proofs.Common.{◌≡◌, ◌∷◌, ◌++◌, ◌∙◌, ℕ, List, [], ap}
use Rattle.scripts.specs.Lines.{Word}
use Rattle.scripts.proofs.lines.PlacesKept.{words-begin, words-more, words-end}
use Rattle.scripts.proofs.all_words.Words.copied.Goals as goal

pub words-init : goal.words-init
words-init c = words-begin c.args.words.now c.new-copies.result c.new-copies.ensures

pub words-preserved : goal.words-preserved
words-preserved c =
    words-more c.args.words.now c.words.word-index c.word-item.result c.words.copies c.add.new.self _ c.words-test.true c.word-item.is
    (c.in_ok-add.ensures ∙ ap (λ (w : List ℕ). c.words.copies ++ w ∷ []) (c.in_ok-copy.ensures.ok ∙ c.as_str.ensures.value)) c.words.invariant

pub returns : goal.returns
returns c = words-end c.args.words.now c.words.word-index c.words.copies _ c.words-test.false c.words.invariant
