use Rattle.std.proofs.Common.{◌∙◌, ap}
use Rattle.dnsname.specs.Names.{lower}
use Rattle.nametable.specs.Nodes.{Nodes}
use Rattle.nametable.specs.Blocks.{begins_by}
use Rattle.nametable.proofs.Beginnings.{begins-less, begins-greater}
use Rattle.nametable.proofs.block.Block.begins_by_lower.Goals as goal

pub returns-then-self-first : goal.returns-then-self-first
returns-then-self-first g c = λ wanted.
    begins-less c.self.inside.first c.args.first (lower c.args.name.now) c.self.inside.nodes.items c.self.invariant wanted c.if-self-first.true
    ∙ ap (λ (ns : Nodes _). begins_by (lower c.args.name.now) ns) c.self.view_is

pub returns-then-first-self : goal.returns-then-first-self
returns-then-first-self g c = λ wanted.
    begins-greater c.self.inside.first c.args.first (lower c.args.name.now) c.self.inside.nodes.items c.self.invariant wanted c.if-first-self.true
    ∙ ap (λ (ns : Nodes _). begins_by (lower c.args.name.now) ns) c.self.view_is
