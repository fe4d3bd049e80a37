use Rattle.std.proofs.Common.{List, [], ap, sym, ◌∙◌}
use Rattle.std.specs.BTreeMap.{BTreeMap}
use Rattle.dnsname.specs.Names.{Labels}
use Rattle.subscr.specs.ByName.{noted_at}
use Rattle.subscr.specs.Named.{without_ask}
use Rattle.subscr.specs.declared.named.Ask.{Ask}
use Rattle.subscr.proofs.Noting.{changed, lent, none_noted, stays, twice, was_noted}
use Rattle.subscr.proofs.named.Named.remove.Goals as goal

pub returns-in_default : goal.returns-in_default
returns-in_default c =
    let none = none_noted c.args.name.now c.self.inside.names (sym c.in_default.ensures.value) in
    changed c.args.name.now (without_ask c.args.id) [] c.self.inside.names.entries c.args.self.now c.get_mut.follows.lender-at-none.entries c.self.view_is
    (λ other. ap (λ (m : BTreeMap Labels (List Ask)). noted_at other m.entries) c.get_mut.follows.holds-at-none ∙ stays c.args.name.now c.self.inside.names.entries none other)
    (ap (without_ask c.args.id) none)

pub returns-then-is_empty : goal.returns-then-is_empty
returns-then-is_empty c =
    changed c.args.name.now (without_ask c.args.id) [] c.self.inside.names.entries c.args.self.now c.forget.new.names.entries c.self.view_is
    (twice c.args.name.now c.remove.new.self [] c.self.inside.names.entries (c.get_mut.follows.lender c.remove.new.self).entries c.forget.new.names.entries
    (lent c.args.name.now c.self.inside.names (c.get_mut.follows.lender c.remove.new.self) c.in-Some.asks.now c.remove.new.self (sym c.in-Some.ensures.value) (c.get_mut.follows.holds c.remove.new.self))
    c.forget.ensures)
    (sym (c.is_empty.ensures c.if-is_empty.true) ∙ c.remove.ensures ∙ ap (without_ask c.args.id) (was_noted c.args.name.now c.self.inside.names c.in-Some.asks.now (sym c.in-Some.ensures.value)))

pub returns-else-is_empty : goal.returns-else-is_empty
returns-else-is_empty c =
    changed c.args.name.now (without_ask c.args.id) c.remove.new.self c.self.inside.names.entries c.args.self.now (c.get_mut.follows.lender c.remove.new.self).entries c.self.view_is
    (lent c.args.name.now c.self.inside.names (c.get_mut.follows.lender c.remove.new.self) c.in-Some.asks.now c.remove.new.self (sym c.in-Some.ensures.value) (c.get_mut.follows.holds c.remove.new.self))
    (c.remove.ensures ∙ ap (without_ask c.args.id) (was_noted c.args.name.now c.self.inside.names c.in-Some.asks.now (sym c.in-Some.ensures.value)))
