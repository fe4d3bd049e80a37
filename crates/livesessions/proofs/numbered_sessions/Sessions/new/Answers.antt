-- No number stands twice where there is none.
use Rattle.std.proofs.Common.{ℕ, sym, subst}
use Rattle.std.specs.Prelude.{◌==◌}
use Rattle.rrset.proofs.Distinct.{distinct_none}
use Rattle.pushsession.specs.Kept.{KeptSession}
use Rattle.livesessions.specs.NumberedSessions.{AreApart}
use Rattle.livesessions.proofs.numbered_sessions.Sessions.new.Goals as goal

pub invariant_of-result : goal.invariant_of-result
invariant_of-result c = subst AreApart (sym c.new.ensures.items) (distinct_none (λ (d e : ℕ × KeptSession). d.0 == e.0))
