use Rattle.std.proofs.Common.{◌∷◌, ap, ◌∙◌}
use Rattle.scripts.proofs.lines.Pieces.{word_alone}
use Rattle.scripts.proofs.lines.Splits.{two_of_more}
use Rattle.scripts.proofs.line.two_words.Goals as goal

pub returns-in-Some-clause-none : goal.returns-in-Some-clause-none
returns-in-Some-clause-none c = two_of_more c.in_ok-first.first.now c.in_ok-first.second.now _ c.in-Some.field-0 c.in_ok-first.ensures.found c.in-Some.ensures.place

pub returns-in-None-clause-found : goal.returns-in-None-clause-found
returns-in-None-clause-found c =
    let first = c.in_ok-first.first.now in
    c.in_ok-first.ensures.found ∙ ap (λ ws. first ∷ ws) (word_alone c.in_ok-first.second.now c.in-None.ensures.place)
