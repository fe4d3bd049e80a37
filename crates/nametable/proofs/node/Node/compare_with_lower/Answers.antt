use Rattle.std.proofs.Common.{◌∙◌, sym, ap}
use Rattle.std.specs.Cmp.{nat_cmp_is}
use Rattle.std.specs.declared.cmp.Ordering.TheVariants.{Less, Greater}
use Rattle.dnsname.specs.Names.{lower}
use Rattle.nametable.specs.Nodes.{Node, name_cmp}
use Rattle.nametable.proofs.NumberOrder.{by_first}
use Rattle.nametable.proofs.node.Node.compare_with_lower.Goals as goal

pub returns-then-self-first : goal.returns-then-self-first
returns-then-self-first g c = λ wanted.
    sym (by_first c.self.inside.first c.args.first c.self.inside.named.value.owner (lower c.args.name.now) c.self.invariant wanted Less (nat_cmp_is c.self.inside.first c.args.first Less c.if-self-first.true))
    ∙ ap (λ (n : Node _). name_cmp n.0 (lower c.args.name.now)) c.self.view_is

pub returns-then-first-self : goal.returns-then-first-self
returns-then-first-self g c = λ wanted.
    sym (by_first c.self.inside.first c.args.first c.self.inside.named.value.owner (lower c.args.name.now) c.self.invariant wanted Greater (nat_cmp_is c.self.inside.first c.args.first Greater c.if-first-self.true))
    ∙ ap (λ (n : Node _). name_cmp n.0 (lower c.args.name.now)) c.self.view_is
