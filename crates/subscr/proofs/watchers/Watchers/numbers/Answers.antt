use Rattle.std.proofs.Common.{ℕ, List, refl, ap, sym, ◌∙◌}
use Rattle.std.specs.Prelude.{nat_lt}
use Rattle.subscr.specs.ByName.{noted_at}
use Rattle.subscr.specs.Watching.{times}
use Rattle.subscr.proofs.Noting.{none_noted, was_noted}
use Rattle.subscr.proofs.watchers.Watchers.numbers.Goals as goal

pub returns-in-Some : goal.returns-in-Some
returns-in-Some c = record {
  rising = c.numbers.ensures.rising;
  each = λ session.
      c.numbers.ensures.each session
      ∙ ap (λ (l : List ℕ). nat_lt 0 (times session l))
      (was_noted c.args.name.now c.self.inside.names c.in-Some.sessions.now (sym c.in-Some.ensures.value) ∙ ap (noted_at c.args.name.now) c.self.view_is);
}

pub returns-in-None : goal.returns-in-None
returns-in-None c = record {
  rising = refl;
  each = λ session.
      ap (λ (l : List ℕ). nat_lt 0 (times session l)) (none_noted c.args.name.now c.self.inside.names (sym c.in-None.ensures.value) ∙ ap (noted_at c.args.name.now) c.self.view_is);
}
