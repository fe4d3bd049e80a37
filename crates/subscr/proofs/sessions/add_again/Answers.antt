use Rattle.std.proofs.Common.{ℕ, List, ap, subst, ◌∙◌}
use Rattle.std.specs.Prelude.{◌==◌}
use Rattle.std.specs.List.{position}
use Rattle.subscr.specs.Numbers.{again_of}
use Rattle.subscr.specs.Watching.{StandsOnceMore, times}
use Rattle.subscr.specs.declared.sessions.Again.{Again}
use Rattle.subscr.proofs.Again.{again-first, at-place}
use Rattle.subscr.proofs.Noting.{on_ok}
use Rattle.subscr.proofs.sessions.add_again.Goals as goal

pub returns-in-Some-clause-ok : goal.returns-in-Some-clause-ok
returns-in-Some-clause-ok c =
    let any : Again = record { session = c.args.session; besides = 0 } in
    let at = at-place c.args.session c.args.again.now.items c.in-Some.place any (c.in-Some.ensures ∙ ap (λ (l : List Again). position (λ a. a.session == c.args.session) l) c.deref.ensures.value) in
    on_ok c.count_more.result
    (λ more. subst (λ (n : ℕ). StandsOnceMore n (again_of c.args.again.now.items) (again_of c.count_more.new.again.items)) at.session-is (more any))
    c.count_more.ensures.ok

pub returns-in_ok-push-in-None-clause-ok : goal.returns-in_ok-push-in-None-clause-ok
returns-in_ok-push-in-None-clause-ok c = λ another.
    ap (λ (l : List Again). times another (again_of l)) c.in_ok-push-in-None.ensures.items ∙ again-first c.args.session c.args.again.now.items another
