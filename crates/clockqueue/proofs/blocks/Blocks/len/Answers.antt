use Rattle.std.proofs.Common.{◌∙◌, length, sym, ap}
use Rattle.clockqueue.proofs.Sizes.{tier-length}
use Rattle.clockqueue.proofs.blocks.Blocks.len.Goals as goal

pub returns-clause-length : goal.returns-clause-length
returns-clause-length g c = sym (tier-length c.self.inside.blocks.items c.self.inside.len c.self.invariant.0) ∙ ap (λ t. length t.items) c.self.view_is
