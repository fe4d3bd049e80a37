use Rattle.std.proofs.Common.{List, Some, ap, sym, ◌∙◌}
use Rattle.std.specs.Map.{set_value}
use Rattle.std.specs.BTreeMap.{BTreeMap, is_at}
use Rattle.std.proofs.lemmas.Map.Steps.{set_value_same}
use Rattle.dnsname.specs.Names.{Labels}
use Rattle.dnsname.specs.Caseless.{name_order}
use Rattle.subscr.specs.ByName.{noted_at}
use Rattle.subscr.specs.Named.{with_ask}
use Rattle.subscr.specs.declared.named.Ask.{Ask}
use Rattle.subscr.proofs.Noting.{changed, lent, none_noted, on_err, on_ok, updated, was_noted}
use Rattle.subscr.proofs.named.Named.add.Goals as goal

pub returns-in-Some-clause-ok : goal.returns-in-Some-clause-ok
returns-in-Some-clause-ok c =
    on_ok c.add.result
    (λ added. changed c.args.name (with_ask c.args.ask) c.add.new.self c.self.inside.names.entries c.args.self.now (c.get_mut.follows.lender c.add.new.self).entries c.self.view_is
    (lent c.args.name c.self.inside.names (c.get_mut.follows.lender c.add.new.self) c.in-Some.asks.now c.add.new.self (sym c.in-Some.ensures.value) (c.get_mut.follows.holds c.add.new.self))
    (added ∙ ap (with_ask c.args.ask) (was_noted c.args.name c.self.inside.names c.in-Some.asks.now (sym c.in-Some.ensures.value))))
    c.add.ensures.ok

pub returns-in-Some-clause-err : goal.returns-in-Some-clause-err
returns-in-Some-clause-err c =
    on_err c.add.result
    (λ kept.
    (c.get_mut.follows.holds c.add.new.self).0
    ∙ ap (λ (l : List Ask). set_value (is_at (name_order c.args.name)) c.self.inside.names.entries l) kept
    ∙ set_value_same (is_at (name_order c.args.name)) c.self.inside.names.entries c.in-Some.asks.now (sym c.in-Some.ensures.value)
    ∙ c.self.view_is)
    c.add.ensures.err

pub returns-in_ok-insert-in-None-clause-ok : goal.returns-in_ok-insert-in-None-clause-ok
returns-in_ok-insert-in-None-clause-ok c =
    changed c.args.name (with_ask c.args.ask) c.in_ok-asks-in-None.asks c.get_mut.follows.lender-at-none.entries c.args.self.now c.insert.new.self.entries
    (ap (λ (m : BTreeMap Labels (List Ask)). m.entries) c.get_mut.follows.holds-at-none ∙ c.self.view_is)
    (updated c.args.name c.get_mut.follows.lender-at-none c.insert.new.self (Some c.in_ok-asks-in-None.asks) c.in_ok-insert-in-None.ensures.updates)
    (c.in_ok-asks-in-None.ensures
    ∙ ap (with_ask c.args.ask)
    (none_noted c.args.name c.self.inside.names (sym c.in-None.ensures.value) ∙ ap (λ (m : BTreeMap Labels (List Ask)). noted_at c.args.name m.entries) (sym c.get_mut.follows.holds-at-none)))
