use Rattle.std.proofs.Common.{not, rules, of_calls}
use Rattle.std.proofs.lemmas.Fn.{filter_same}
use Rattle.rrset.specs.Records.{same_question}
use Rattle.pushclient.proofs.wishes.forget.Goals as goal

pub returns-clause-left : goal.returns-clause-left
returns-clause-left c = filter_same _ (λ w. not (same_question w.question c.args.question.now)) _ (λ x b f k. search (rules, of_calls)) c.args.wishes.now.items c.retain.new.self.items c.retain.ensures.filtered
