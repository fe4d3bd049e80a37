use Rattle.std.proofs.Common.{ℕ, List, not, rules, of_calls}
use Rattle.std.specs.Prelude.{◌==◌}
use Rattle.std.proofs.lemmas.Fn.{filter_same}
use Rattle.linkreasons.specs.declared.reason.Reason.{Reason}
use Rattle.linkreasons.proofs.leaving.without.Goals as goal

pub returns : goal.returns
returns c = filter_same _ (λ (e : ℕ × List Reason). not (e.0 == c.args.number)) _ (λ x b f k. search (rules, of_calls)) c.args.sessions.now.items c.retain.new.self.items c.retain.ensures.filtered
