use Rattle.std.proofs.Common.{ℕ, ◌+◌, List, [], Some, cond, ap, sym, subst, ◌∙◌}
use Rattle.std.specs.Prelude.{◌==◌}
use Rattle.std.specs.Map.{set_value}
use Rattle.std.specs.BTreeMap.{BTreeMap, UpdatesBy, is_at}
use Rattle.std.proofs.lemmas.Map.Steps.{set_value_same}
use Rattle.dnsname.specs.Names.{Labels}
use Rattle.dnsname.specs.Caseless.{name_order}
use Rattle.subscr.specs.ByName.{noted_at}
use Rattle.subscr.specs.Watching.{times}
use Rattle.subscr.proofs.Counts.{times-push}
use Rattle.subscr.proofs.Noting.{counted, lent, none_noted, on_err, on_ok, updated, was_noted}
use Rattle.subscr.proofs.watchers.Watchers.add.Goals as goal

pub returns-in-Some-clause-ok : goal.returns-in-Some-clause-ok
returns-in-Some-clause-ok c =
    on_ok c.add.result
    (λ more. counted (λ n. n + 1) c.args.name.now c.args.session c.add.new.self c.self.inside.names.entries c.args.self.now (c.get_mut.follows.lender c.add.new.self).entries c.self.view_is
    (lent c.args.name.now c.self.inside.names (c.get_mut.follows.lender c.add.new.self) c.in-Some.sessions.now c.add.new.self (sym c.in-Some.ensures.value) (c.get_mut.follows.holds c.add.new.self))
    (λ q. more q ∙ ap (λ (l : List ℕ). cond (c.args.session == q) (times q l + 1) (times q l)) (was_noted c.args.name.now c.self.inside.names c.in-Some.sessions.now (sym c.in-Some.ensures.value))))
    c.add.ensures.ok

pub returns-in-Some-clause-err : goal.returns-in-Some-clause-err
returns-in-Some-clause-err c =
    on_err c.add.result
    (λ kept.
    (c.get_mut.follows.holds c.add.new.self).0
    ∙ ap (λ (l : List ℕ). set_value (is_at (name_order c.args.name.now)) c.self.inside.names.entries l) kept
    ∙ set_value_same (is_at (name_order c.args.name.now)) c.self.inside.names.entries c.in-Some.sessions.now (sym c.in-Some.ensures.value)
    ∙ c.self.view_is)
    c.add.ensures.err

pub returns-in_ok-insert-in-None-clause-ok : goal.returns-in_ok-insert-in-None-clause-ok
returns-in_ok-insert-in-None-clause-ok c =
    counted (λ n. n + 1) c.args.name.now c.args.session c.in_ok-sessions-in-None.sessions c.get_mut.follows.lender-at-none.entries c.args.self.now c.insert.new.self.entries
    (ap (λ (m : BTreeMap Labels (List ℕ)). m.entries) c.get_mut.follows.holds-at-none ∙ c.self.view_is)
    (updated c.args.name.now c.get_mut.follows.lender-at-none c.insert.new.self (Some c.in_ok-sessions-in-None.sessions)
    (subst (λ (k : Labels). UpdatesBy name_order (name_order k) c.get_mut.follows.lender-at-none c.insert.new.self (Some c.in_ok-sessions-in-None.sessions)) c.in_ok-name-in-None.ensures c.in_ok-insert-in-None.ensures.updates))
    (λ q.
    ap (times q) c.in_ok-sessions-in-None.ensures
    ∙ times-push q c.args.session []
    ∙ ap (λ (l : List ℕ). cond (c.args.session == q) (times q l + 1) (times q l))
    (none_noted c.args.name.now c.self.inside.names (sym c.in-None.ensures.value) ∙ ap (λ (m : BTreeMap Labels (List ℕ)). noted_at c.args.name.now m.entries) (sym c.get_mut.follows.holds-at-none)))
