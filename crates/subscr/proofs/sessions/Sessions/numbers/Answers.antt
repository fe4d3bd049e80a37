use Rattle.std.proofs.Common.{ℕ, List, ap, ◌∙◌}
use Rattle.std.specs.Prelude.{nat_lt}
use Rattle.subscr.specs.Watching.{is_in, times}
use Rattle.subscr.specs.Numbers.{again_of}
use Rattle.subscr.proofs.Counts.{told-first}
use Rattle.subscr.proofs.sessions.Sessions.numbers.Goals as goal

pub returns-clause-each : goal.returns-clause-each
returns-clause-each c = λ session.
    ap (is_in session) c.deref.ensures.value
    ∙ told-first session c.self.inside.numbers.items (again_of c.self.inside.again.items) c.self.invariant
    ∙ ap (λ (l : List ℕ). nat_lt 0 (times session l)) c.self.view_is
