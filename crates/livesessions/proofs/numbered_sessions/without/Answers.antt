-- The other sessions are kept.
use Rattle.std.proofs.Common.{ℕ, not, rules, of_calls}
use Rattle.std.specs.Prelude.{◌==◌}
use Rattle.std.proofs.lemmas.Fn.{filter_same}
use Rattle.pushsession.specs.Kept.{KeptSession}
use Rattle.livesessions.proofs.numbered_sessions.without.Goals as goal

pub returns : goal.returns
returns c = filter_same _ (λ (e : ℕ × KeptSession). not (e.0 == c.args.number)) _ (λ x b f k. search (rules, of_calls)) c.args.numbered.now.items c.retain.new.self.items c.retain.ensures.filtered
