use Rattle.std.proofs.Common.{rules, of_calls}
use Rattle.std.proofs.lemmas.Fn.{filter_same}
use Rattle.replay.specs.KeptExchanges.{not_told}
use Rattle.replay.proofs.told_ends.take_out.Goals as goal

pub returns : goal.returns
returns c = filter_same _ (not_told c.args.told.now) _ (λ x b f k. search (rules, of_calls)) c.args.filled.now.items c.retain.new.self.items c.retain.ensures.filtered
