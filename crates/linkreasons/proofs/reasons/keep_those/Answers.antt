use Rattle.std.proofs.Common.{rules, of_calls}
use Rattle.std.proofs.lemmas.Fn.{filter_same}
use Rattle.subscr.specs.Asked.{has}
use Rattle.linkreasons.specs.declared.reason.Reason.{Reason}
use Rattle.linkreasons.proofs.reasons.keep_those.Goals as goal

pub returns : goal.returns
returns c = filter_same _ (λ (r : Reason). has r.id c.args.asked.now) _ (λ x b f k. search (rules, of_calls)) c.args.items.now.items c.retain.new.self.items c.retain.ensures.filtered
