use Rattle.std.proofs.Common.{ℕ, not, rules, of_calls}
use Rattle.std.specs.Prelude.{◌==◌}
use Rattle.std.proofs.lemmas.Fn.{filter_same}
use Rattle.pushsession.proofs.reacting.take_out.Goals as goal

pub returns : goal.returns
returns c = filter_same _ (λ (e : ℕ × ℕ). not (e.0 == c.args.id)) _ (λ x b f k. search (rules, of_calls)) c.args.filled.now.items c.retain.new.self.items c.retain.ensures.filtered
