-- Numbers stay apart.
use Rattle.std.proofs.Common.{ℕ, false, ◌≡◌, sym, subst}
use Rattle.std.specs.Prelude.{◌==◌}
use Rattle.std.specs.List.{list_any}
use Rattle.pushsession.specs.Kept.{KeptSession}
use Rattle.livesessions.specs.NumberedSessions.{Numbered, AreApart}
use Rattle.livesessions.proofs.NumberedSessions.{apart-last}
use Rattle.livesessions.proofs.numbered_sessions.Sessions.push.Goals as goal

pub invariant_of-self-2 : goal.invariant_of-self-2
invariant_of-self-2 c =
    subst AreApart (sym c.in_ok-push.ensures.items)
    (apart-last c.self.inside.numbered.items c.args.number c.args.session c.self.invariant (subst (λ (xs : Numbered KeptSession). list_any (λ (e : ℕ × KeptSession). e.0 == c.args.number) xs ≡ false) (sym c.self.view_is) c.requires))
