use Rattle.std.proofs.Common.{ℕ, ◌-◌, List, [], cond, ap, sym, ◌∙◌}
use Rattle.std.specs.Prelude.{◌==◌, nat_lt}
use Rattle.std.specs.BTreeMap.{BTreeMap}
use Rattle.dnsname.specs.Names.{Labels}
use Rattle.subscr.specs.ByName.{noted_at}
use Rattle.subscr.specs.Watching.{times}
use Rattle.subscr.proofs.Counts.{nothing_less}
use Rattle.subscr.proofs.Noting.{counted, lent, none_noted, stays, twice, was_noted}
use Rattle.subscr.proofs.watchers.Watchers.remove.Goals as goal

pub returns-in_default-clause-watched : goal.returns-in_default-clause-watched
returns-in_default-clause-watched c =
    let none = none_noted c.args.name.now c.self.inside.names (sym c.in_default.ensures.value) in
    ap (λ (l : List ℕ). nat_lt 0 (times c.args.session l)) (none ∙ ap (noted_at c.args.name.now) c.self.view_is)

pub returns-in_default-clause-less : goal.returns-in_default-clause-less
returns-in_default-clause-less c =
    let none = none_noted c.args.name.now c.self.inside.names (sym c.in_default.ensures.value) in
    counted (λ n. n - 1) c.args.name.now c.args.session [] c.self.inside.names.entries c.args.self.now c.get_mut.follows.lender-at-none.entries c.self.view_is
    (λ other. ap (λ (m : BTreeMap Labels (List ℕ)). noted_at other m.entries) c.get_mut.follows.holds-at-none ∙ stays c.args.name.now c.self.inside.names.entries none other)
    (λ q. nothing_less (c.args.session == q) ∙ ap (λ (l : List ℕ). cond (c.args.session == q) (times q l - 1) (times q l)) none)

pub returns-then-is_empty-clause-watched : goal.returns-then-is_empty-clause-watched
returns-then-is_empty-clause-watched c =
    c.remove-watched.ensures.watched
    ∙ ap (λ (l : List ℕ). nat_lt 0 (times c.args.session l))
    (was_noted c.args.name.now c.self.inside.names c.in-Some.sessions.now (sym c.in-Some.ensures.value) ∙ ap (noted_at c.args.name.now) c.self.view_is)

pub returns-then-is_empty-clause-less : goal.returns-then-is_empty-clause-less
returns-then-is_empty-clause-less c =
    counted (λ n. n - 1) c.args.name.now c.args.session [] c.self.inside.names.entries c.args.self.now c.forget.new.names.entries c.self.view_is
    (twice c.args.name.now c.remove-watched.new.self [] c.self.inside.names.entries (c.get_mut.follows.lender c.remove-watched.new.self).entries c.forget.new.names.entries
    (lent c.args.name.now c.self.inside.names (c.get_mut.follows.lender c.remove-watched.new.self) c.in-Some.sessions.now c.remove-watched.new.self (sym c.in-Some.ensures.value) (c.get_mut.follows.holds c.remove-watched.new.self))
    c.forget.ensures)
    (λ q.
    sym (c.is_empty.ensures c.if-is_empty.true q)
    ∙ c.remove-watched.ensures.less q
    ∙ ap (λ (l : List ℕ). cond (c.args.session == q) (times q l - 1) (times q l)) (was_noted c.args.name.now c.self.inside.names c.in-Some.sessions.now (sym c.in-Some.ensures.value)))

pub returns-else-is_empty-clause-watched : goal.returns-else-is_empty-clause-watched
returns-else-is_empty-clause-watched c =
    c.remove-watched.ensures.watched
    ∙ ap (λ (l : List ℕ). nat_lt 0 (times c.args.session l))
    (was_noted c.args.name.now c.self.inside.names c.in-Some.sessions.now (sym c.in-Some.ensures.value) ∙ ap (noted_at c.args.name.now) c.self.view_is)

pub returns-else-is_empty-clause-less : goal.returns-else-is_empty-clause-less
returns-else-is_empty-clause-less c =
    counted (λ n. n - 1) c.args.name.now c.args.session c.remove-watched.new.self c.self.inside.names.entries c.args.self.now (c.get_mut.follows.lender c.remove-watched.new.self).entries c.self.view_is
    (lent c.args.name.now c.self.inside.names (c.get_mut.follows.lender c.remove-watched.new.self) c.in-Some.sessions.now c.remove-watched.new.self (sym c.in-Some.ensures.value) (c.get_mut.follows.holds c.remove-watched.new.self))
    (λ q. c.remove-watched.ensures.less q ∙ ap (λ (l : List ℕ). cond (c.args.session == q) (times q l - 1) (times q l)) (was_noted c.args.name.now c.self.inside.names c.in-Some.sessions.now (sym c.in-Some.ensures.value)))
