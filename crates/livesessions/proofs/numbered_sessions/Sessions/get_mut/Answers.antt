-- What is lent is the session of the number.
use Rattle.std.proofs.Common.{refl, sym, ap, subst, ◌∙◌}
use Rattle.livesessions.specs.NumberedSessions.{session_in, in_sessions, AreApart}
use Rattle.livesessions.proofs.NumberedSessions.{seat-lent, seat-found, lent-apart, no_seat-found}
use Rattle.livesessions.proofs.numbered_sessions.Sessions.get_mut.Goals as goal

pub invariant_of-self-lent : goal.invariant_of-self-lent
invariant_of-self-lent c = λ last. lent-apart c.args.number c.deref.result.now c.self.inside.numbered.items c.in-Some.place c.index_mut.result.now last c.self.invariant c.deref.ensures.value c.in-Some.ensures c.index_mut.ensures.value

pub returns-in-Some : goal.returns-in-Some
returns-in-Some c = (
  (refl, (λ last. seat-lent c.args.number c.deref.result.now c.self.inside.numbered.items c.in-Some.place c.index_mut.result.now last c.self.invariant c.deref.ensures.value c.in-Some.ensures c.index_mut.ensures.value ∙ ap (in_sessions c.args.number (λ _. last)) c.self.view_is), refl),
  record {
    lends = tt;
    value = ap (session_in c.args.number) (sym c.self.view_is) ∙ seat-found c.args.number c.deref.result.now c.self.inside.numbered.items c.in-Some.place c.index_mut.result.now c.deref.ensures.value c.in-Some.ensures c.index_mut.ensures.value;
    apart = subst AreApart c.self.view_is c.self.invariant;
  },
)

pub returns-in-None : goal.returns-in-None
returns-in-None c = (
  (refl, (λ last. tt), c.self.view_is),
  record {
    lends = tt;
    value = ap (session_in c.args.number) (sym c.self.view_is) ∙ no_seat-found c.args.number c.deref.result.now c.self.inside.numbered.items c.deref.ensures.value c.in-None.ensures;
    apart = subst AreApart c.self.view_is c.self.invariant;
  },
)
