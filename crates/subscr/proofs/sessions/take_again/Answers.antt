use Rattle.std.proofs.Common.{ℕ, List, ap, subst, sym, ◌∙◌}
use Rattle.std.specs.Prelude.{◌==◌}
use Rattle.std.specs.List.{position}
use Rattle.subscr.specs.Numbers.{again_of}
use Rattle.subscr.specs.Watching.{StandsOnceLess}
use Rattle.subscr.specs.declared.sessions.Again.{Again}
use Rattle.subscr.proofs.Again.{again-some, at-place, less-none, no-place}
use Rattle.subscr.proofs.sessions.take_again.Goals as goal

pub returns-in_default-clause-found : goal.returns-in_default-clause-found
returns-in_default-clause-found c =
    sym (no-place c.args.session c.args.again.now.items (c.in_default.ensures ∙ ap (λ (l : List Again). position (λ a. a.session == c.args.session) l) c.deref.ensures.value))

pub returns-in_default-clause-less : goal.returns-in_default-clause-less
returns-in_default-clause-less c =
    less-none c.args.session c.args.again.now.items
    (no-place c.args.session c.args.again.now.items (c.in_default.ensures ∙ ap (λ (l : List Again). position (λ a. a.session == c.args.session) l) c.deref.ensures.value))

pub returns-clause-found : goal.returns-clause-found
returns-clause-found c =
    let any : Again = record { session = c.args.session; besides = 0 } in
    let at = at-place c.args.session c.args.again.now.items c.in-Some.place any (c.in-Some.ensures ∙ ap (λ (l : List Again). position (λ a. a.session == c.args.session) l) c.deref.ensures.value) in
    sym (again-some c.args.session c.args.again.now.items c.in-Some.place any at.within at.session-is)

pub returns-clause-less : goal.returns-clause-less
returns-clause-less c =
    let any : Again = record { session = c.args.session; besides = 0 } in
    let at = at-place c.args.session c.args.again.now.items c.in-Some.place any (c.in-Some.ensures ∙ ap (λ (l : List Again). position (λ a. a.session == c.args.session) l) c.deref.ensures.value) in
    subst (λ (n : ℕ). StandsOnceLess n (again_of c.args.again.now.items) (again_of c.count_less.new.again.items)) at.session-is (c.count_less.ensures any)
