-- Numbers stay apart.
use Rattle.std.proofs.Common.{sym, ap, subst, ◌∙◌}
use Rattle.std.proofs.lemmas.List.{with_items_is}
use Rattle.pushsession.specs.Kept.{taken_back}
use Rattle.livesessions.specs.NumberedSessions.{all_sessions, AreApart}
use Rattle.livesessions.proofs.NumberedSessions.{apart-all}
use Rattle.livesessions.proofs.numbered_sessions.Sessions.take_back.Goals as goal

pub invariant_of-self : goal.invariant_of-self
invariant_of-self c =
    subst AreApart (sym (with_items_is c.self.inside.numbered c.take_back_all.new.numbered (c.take_back_all.auto.numbered ∙ c.deref_mut.ensures.len) ∙ c.take_back_all.ensures ∙ ap (all_sessions (taken_back c.args.point)) c.deref_mut.ensures.value))
    (apart-all (taken_back c.args.point) c.self.inside.numbered.items c.self.invariant)
