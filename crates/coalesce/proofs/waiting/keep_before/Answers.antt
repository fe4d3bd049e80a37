use Rattle.std.proofs.Common.{nat_lt, rules, of_calls}
use Rattle.std.proofs.lemmas.Fn.{filter_same}
use Rattle.coalesce.proofs.waiting.keep_before.Goals as goal

pub returns : goal.returns
returns c = filter_same _ (λ w. nat_lt w.1.point c.args.point) _ (λ x b f k. search (rules, of_calls)) c.args.values.now.items c.retain.new.self.items c.retain.ensures.filtered
