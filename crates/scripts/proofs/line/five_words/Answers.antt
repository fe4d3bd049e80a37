use Rattle.std.proofs.Common.{◌∷◌, ap, ◌∙◌}
use Rattle.scripts.proofs.lines.Pieces.{word_alone}
use Rattle.scripts.proofs.lines.Splits.{five_of_more}
use Rattle.scripts.proofs.line.five_words.Goals as goal

pub returns-in-Some-clause-none : goal.returns-in-Some-clause-none
returns-in-Some-clause-none c =
    let first = c.in_ok-first.first.now in
    let second = c.in_ok-second.second.now in
    let third = c.in_ok-third.third.now in
    five_of_more first second third c.in_ok-fourth.fourth.now c.in_ok-fourth.fifth.now _ c.in-Some.field-0
    (c.in_ok-first.ensures.found ∙ ap (λ ws. first ∷ ws) c.in_ok-second.ensures.found ∙ ap (λ ws. first ∷ second ∷ ws) c.in_ok-third.ensures.found ∙ ap (λ ws. first ∷ second ∷ third ∷ ws) c.in_ok-fourth.ensures.found) c.in-Some.ensures.place

pub returns-in-None-clause-found : goal.returns-in-None-clause-found
returns-in-None-clause-found c =
    let first = c.in_ok-first.first.now in
    let second = c.in_ok-second.second.now in
    let third = c.in_ok-third.third.now in
    let fourth = c.in_ok-fourth.fourth.now in
    c.in_ok-first.ensures.found
    ∙ ap (λ ws. first ∷ ws) c.in_ok-second.ensures.found
    ∙ ap (λ ws. first ∷ second ∷ ws) c.in_ok-third.ensures.found
    ∙ ap (λ ws. first ∷ second ∷ third ∷ ws) c.in_ok-fourth.ensures.found
    ∙ ap (λ ws. first ∷ second ∷ third ∷ fourth ∷ ws) (word_alone c.in_ok-fourth.fifth.now c.in-None.ensures.place)
