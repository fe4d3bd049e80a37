use Rattle.std.proofs.Common.{◌+◌, List, ◌∷◌, drop, sym, ◌∙◌, ap}
use Rattle.std.proofs.lemmas.List.{at_drop_more, drop_all}
use Rattle.rrset.specs.declared.record.Question.{Question}
use Rattle.browsing.specs.Browsing.{drops_one}
use Rattle.browsing.proofs.Folding.{folding-begins, folding-more, folding-done}
use Rattle.browsing.proofs.asking.drop_all.Goals as goal

pub questions-init : goal.questions-init
questions-init c = folding-begins (drops_one c.args.needed.now) c.args.client.now c.args.kept.now c.args.asked.now

pub questions-preserved : goal.questions-preserved
questions-preserved c =
    let all = c.args.asked.now in
    let i = c.questions.question-index in
    let is = at_drop_more (λ (qs : List Question). qs) all i c.question-item.result c.questions-test.true ∙ ap (λ (q : Question). q ∷ drop (i + 1) all) (sym c.question-item.is) in
    folding-more (drops_one c.args.needed.now) c.args.client.now c.args.kept.now all (drop i all) c.questions.client c.questions.kept c.question-item.result (drop (i + 1) all) c.drop_one.new.client c.drop_one.new.kept is c.in_ok-drop_one.ensures c.questions.invariant

pub returns : goal.returns
returns c = folding-done (drops_one c.args.needed.now) c.args.client.now c.args.kept.now c.args.asked.now (drop c.questions.question-index c.args.asked.now) c.questions.client c.questions.kept (drop_all c.questions.question-index c.args.asked.now c.questions-test.false) c.questions.invariant
