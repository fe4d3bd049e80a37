use Rattle.std.proofs.Common.{◌+◌, List, ◌∷◌, drop, refl, sym, ◌∙◌, ap}
use Rattle.std.proofs.lemmas.List.{at_drop_more, drop_all}
use Rattle.rrset.specs.declared.record.Question.{Question}
use Rattle.subscriber.proofs.Asking.{asking-begins, asking-more, asking-done}
use Rattle.subscriber.proofs.passing.ask_all.Goals as goal

pub questions-init : goal.questions-init
questions-init c = asking-begins c.args.questions.now c.args.questions.now c.new-client.result refl c.new-client.ensures

pub questions-preserved : goal.questions-preserved
questions-preserved c =
    let all = c.args.questions.now in
    let i = c.questions.question-index in
    let here = at_drop_more (λ (qs : List Question). qs) all i c.question-item.result c.questions-test.true in
    let is = here ∙ ap (λ (q : Question). q ∷ drop (i + 1) all) (sym c.question-item.is ∙ sym c.in_ok-question.ensures) in
    asking-more all (drop i all) c.questions.client c.subscribe.new.self c.in_ok-question.question (drop (i + 1) all) is (λ plain stands. (c.in_ok-subscribe.ensures.ok plain stands).1) c.questions.invariant

pub returns : goal.returns
returns c = asking-done c.args.questions.now (drop c.questions.question-index c.args.questions.now) c.questions.client (drop_all c.questions.question-index c.args.questions.now c.questions-test.false) c.questions.invariant
