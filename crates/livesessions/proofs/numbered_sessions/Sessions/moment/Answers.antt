-- Numbers stay apart.
use Rattle.std.proofs.Common.{sym, ap, subst, ◌∙◌}
use Rattle.std.proofs.lemmas.List.{with_items_is}
use Rattle.pushsession.specs.Sessions.{timed}
use Rattle.pushsession.specs.Kept.{keeping}
use Rattle.livesessions.specs.NumberedSessions.{all_sessions, AreApart}
use Rattle.livesessions.proofs.NumberedSessions.{apart-all}
use Rattle.livesessions.proofs.numbered_sessions.Sessions.moment.Goals as goal

pub invariant_of-self : goal.invariant_of-self
invariant_of-self c =
    subst AreApart (sym (with_items_is c.self.inside.numbered c.time_all.new.numbered (c.time_all.auto.numbered ∙ c.deref_mut.ensures.len) ∙ c.time_all.ensures.timed ∙ ap (all_sessions (timed keeping c.args.at)) c.deref_mut.ensures.value))
    (apart-all (timed keeping c.args.at) c.self.inside.numbered.items c.self.invariant)
