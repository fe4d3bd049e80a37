use Rattle.std.proofs.Common.{of_calls, rules}
use Rattle.std.proofs.lemmas.Fn.{filter_same}
use Rattle.hublock.specs.Inside.{is_live}
use Rattle.hublock.proofs.marks.keep_live.Goals as goal

pub returns-clause-live : goal.returns-clause-live
returns-clause-live c = filter_same _ (is_live c.args.hub.now) _ (λ x b f k. search (rules, of_calls)) c.args.sessions.now.items c.retain.new.self.items c.retain.ensures.filtered
