-- Numbers stay apart.
use Rattle.std.proofs.Common.{sym, ap, subst, ◌∙◌}
use Rattle.std.proofs.lemmas.List.{with_items_is}
use Rattle.livesessions.specs.Behind.{ended_from}
use Rattle.livesessions.specs.NumberedSessions.{all_sessions, AreApart}
use Rattle.livesessions.proofs.NumberedSessions.{apart-all}
use Rattle.livesessions.proofs.numbered_sessions.Sessions.end_behind.Goals as goal

pub invariant_of-self : goal.invariant_of-self
invariant_of-self c =
    subst AreApart (sym (with_items_is c.self.inside.numbered c.end_each.new.numbered (c.end_each.auto.numbered ∙ c.deref_mut.ensures.len) ∙ c.end_each.ensures.ended ∙ ap (all_sessions (ended_from c.args.floor)) c.deref_mut.ensures.value))
    (apart-all (ended_from c.args.floor) c.self.inside.numbered.items c.self.invariant)
