use Rattle.std.proofs.Common.{◌≡◌, ℕ, ◌-◌, cond, true, false, List, ap, sym, ◌∙◌}
use Rattle.std.specs.Prelude.{◌==◌, nat_lt}
use Rattle.subscr.specs.Watching.{is_in, times}
use Rattle.subscr.specs.Numbers.{again_of}
use Rattle.subscr.proofs.Counts.{kept-last, kept-less_again, less-again, less-last, told-first}
use Rattle.subscr.proofs.sessions.Sessions.remove.Goals as goal

again : (c : goal.Then-take_again) → is_in c.args.session (again_of c.self.inside.again.items) ≡ true
again c = sym c.take_again.ensures.found ∙ c.if-take_again.true

once : (c : goal.After-take_out) → is_in c.args.session (again_of c.self.inside.again.items) ≡ false
once c = sym c.take_again.ensures.found ∙ c.if-take_again.false

pub invariant_of-self : goal.invariant_of-self
invariant_of-self c = kept-less_again c.args.session c.self.inside.numbers.items (again_of c.self.inside.again.items) (again_of c.take_again.new.again.items) c.self.invariant c.take_again.ensures.less

pub returns-then-take_again-clause-watched : goal.returns-then-take_again-clause-watched
returns-then-take_again-clause-watched c =
    sym (c.self.invariant.known c.args.session (again c))
    ∙ told-first c.args.session c.self.inside.numbers.items (again_of c.self.inside.again.items) c.self.invariant
    ∙ ap (λ (l : List ℕ). nat_lt 0 (times c.args.session l)) c.self.view_is

pub returns-then-take_again-clause-less : goal.returns-then-take_again-clause-less
returns-then-take_again-clause-less c = λ another.
    less-again c.args.session c.self.inside.numbers.items (again_of c.self.inside.again.items) (again_of c.take_again.new.again.items) (again c) c.take_again.ensures.less another
    ∙ ap (λ (l : List ℕ). cond (c.args.session == another) (times another l - 1) (times another l)) c.self.view_is

pub invariant_of-self-2 : goal.invariant_of-self-2
invariant_of-self-2 c =
    kept-last c.args.session c.self.inside.numbers.items (again_of c.self.inside.again.items) c.take_out.new.numbers.items (again_of c.take_again.new.again.items) c.self.invariant (once c) c.take_again.ensures.less
    c.take_out.ensures.less (c.take_out.ensures.rising c.self.invariant.rising)

pub returns-clause-watched : goal.returns-clause-watched
returns-clause-watched c =
    c.take_out.ensures.found
    ∙ told-first c.args.session c.self.inside.numbers.items (again_of c.self.inside.again.items) c.self.invariant
    ∙ ap (λ (l : List ℕ). nat_lt 0 (times c.args.session l)) c.self.view_is

pub returns-clause-less : goal.returns-clause-less
returns-clause-less c = λ another.
    less-last c.args.session c.self.inside.numbers.items (again_of c.self.inside.again.items) c.take_out.new.numbers.items (again_of c.take_again.new.again.items) (once c) c.take_again.ensures.less c.take_out.ensures.less another
    ∙ ap (λ (l : List ℕ). cond (c.args.session == another) (times another l - 1) (times another l)) c.self.view_is
