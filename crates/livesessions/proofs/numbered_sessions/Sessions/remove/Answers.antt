-- Numbers stay apart.
use Rattle.std.proofs.Common.{sym, subst}
use Rattle.livesessions.specs.NumberedSessions.{AreApart}
use Rattle.livesessions.proofs.NumberedSessions.{apart-left}
use Rattle.livesessions.proofs.numbered_sessions.Sessions.remove.Goals as goal

pub invariant_of-self : goal.invariant_of-self
invariant_of-self c = subst AreApart (sym c.without.ensures) (apart-left c.args.number c.self.inside.numbered.items c.self.invariant)
