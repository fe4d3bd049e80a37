use Rattle.std.proofs.Common.{◌≡◌, ℕ, List, Some, false, sym, ap, ◌∙◌}
use Rattle.std.specs.Prelude.{◌==◌}
use Rattle.std.specs.List.{position}
use Rattle.rrset.proofs.Distinct.{no_place}
use Rattle.subscr.specs.Watching.{are_rising, is_in, times}
use Rattle.subscr.proofs.Counts.{none_less, place-less, place-rising, place-there}
use Rattle.subscr.proofs.sessions.take_out.Goals as goal

none : (c : goal.In_default) → is_in c.args.session c.args.numbers.now.items ≡ false
none c =
    no_place (λ n. n == c.args.session) c.args.numbers.now.items
    (ap (λ (l : List ℕ). position (λ n. n == c.args.session) l) (sym c.deref.ensures.value) ∙ sym c.in_default.ensures)

at : (c : goal.After-remove) → Some c.in-Some.place ≡ position (λ n. n == c.args.session) c.args.numbers.now.items
at c = c.in-Some.ensures ∙ ap (λ (l : List ℕ). position (λ n. n == c.args.session) l) c.deref.ensures.value

pub returns-in_default-clause-found : goal.returns-in_default-clause-found
returns-in_default-clause-found c = sym (none c)

pub returns-in_default-clause-less : goal.returns-in_default-clause-less
returns-in_default-clause-less c = λ another. none_less another c.args.session c.args.numbers.now.items (none c)

pub returns-clause-found : goal.returns-clause-found
returns-clause-found c = place-there c.args.session c.args.numbers.now.items c.in-Some.place (at c)

pub returns-clause-less : goal.returns-clause-less
returns-clause-less c = λ another. ap (times another) c.remove.ensures.items ∙ place-less c.args.session c.args.numbers.now.items c.in-Some.place (at c) another

pub returns-clause-rising : goal.returns-clause-rising
returns-clause-rising c = λ rising. ap are_rising c.remove.ensures.items ∙ place-rising c.args.session c.args.numbers.now.items c.in-Some.place (at c) rising
