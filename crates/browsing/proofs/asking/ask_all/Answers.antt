use Rattle.std.proofs.Common.{◌+◌, List, ◌∷◌, drop, sym, ◌∙◌, ap}
use Rattle.std.proofs.lemmas.List.{at_drop_more, drop_all}
use Rattle.rrset.specs.declared.record.Question.{Question}
use Rattle.browsing.specs.Browsing.{asks_one}
use Rattle.browsing.proofs.Folding.{folding-begins, folding-more, folding-done}
use Rattle.browsing.proofs.asking.ask_all.Goals as goal

pub questions-init : goal.questions-init
questions-init c = folding-begins asks_one c.args.client.now c.args.asked.now c.args.needed.now

pub questions-preserved : goal.questions-preserved
questions-preserved c =
    let all = c.args.needed.now in
    let i = c.questions.question-index in
    let is = at_drop_more (λ (qs : List Question). qs) all i c.question-item.result c.questions-test.true ∙ ap (λ (q : Question). q ∷ drop (i + 1) all) (sym c.question-item.is) in
    folding-more asks_one c.args.client.now c.args.asked.now all (drop i all) c.questions.client c.questions.asked c.question-item.result (drop (i + 1) all) c.ask_one.new.client c.ask_one.new.asked is c.in_ok-ask_one.ensures c.questions.invariant

pub returns : goal.returns
returns c = folding-done asks_one c.args.client.now c.args.asked.now c.args.needed.now (drop c.questions.question-index c.args.needed.now) c.questions.client c.questions.asked (drop_all c.questions.question-index c.args.needed.now c.questions-test.false) c.questions.invariant
