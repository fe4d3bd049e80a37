use Rattle.std.proofs.Common.{ℕ, ap, sym, ◌∙◌}
use Rattle.std.specs.Prelude.{◌==◌}
use Rattle.subscr.specs.Watching.{times}
use Rattle.subscr.specs.Numbers.{again_of}
use Rattle.subscr.proofs.Counts.{no_items, none_there}
use Rattle.subscr.proofs.sessions.Sessions.is_empty.Goals as goal

pub returns : goal.returns
returns c = λ empty session.
    ap (times session) (sym c.self.view_is)
    ∙ none_there c.self.inside.numbers.items (again_of c.self.inside.again.items) c.self.invariant
    (no_items c.self.inside.numbers.items (ap (λ (n : ℕ). n == 0) (sym c.self.inside.numbers.ok.0) ∙ sym c.is_empty.ensures ∙ empty)) session
