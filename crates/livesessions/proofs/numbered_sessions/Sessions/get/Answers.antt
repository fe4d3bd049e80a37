-- What stands there is found.
use Rattle.std.proofs.Common.{sym, ap, ◌∙◌}
use Rattle.livesessions.proofs.NumberedSessions.{seat-found, no_seat-found}
use Rattle.livesessions.specs.NumberedSessions.{session_in}
use Rattle.livesessions.proofs.numbered_sessions.Sessions.get.Goals as goal

pub returns-in-Some : goal.returns-in-Some
returns-in-Some c = ap (session_in c.args.number) (sym c.self.view_is) ∙ seat-found c.args.number c.deref.result.now c.self.inside.numbered.items c.in-Some.place c.index.result.now c.deref.ensures.value c.in-Some.ensures c.index.ensures

pub returns-in-None : goal.returns-in-None
returns-in-None c = ap (session_in c.args.number) (sym c.self.view_is) ∙ no_seat-found c.args.number c.deref.result.now c.self.inside.numbered.items c.deref.ensures.value c.in-None.ensures
