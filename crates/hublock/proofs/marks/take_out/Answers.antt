use Rattle.std.proofs.Common.{of_calls, rules}
use Rattle.std.proofs.lemmas.Fn.{filter_same}
use Rattle.std.specs.Prelude.{ℕ, not, ◌==◌}
use Rattle.hublock.proofs.marks.take_out.Goals as goal

pub returns-clause-rest : goal.returns-clause-rest
returns-clause-rest c = filter_same _ (λ (mark : ℕ). not (mark == c.args.number)) _ (λ x b f k. search (rules, of_calls)) c.args.sessions.now.items c.retain.new.self.items c.retain.ensures.filtered
