use Rattle.std.proofs.Common.{◌≡◌, ◌∙◌, length, sym, ap, arith}
use Rattle.clockqueue.proofs.Sizes.{tier-length}
use Rattle.clockqueue.proofs.blocks.Blocks.at.Goals as goal

pub entry_at-requires-clause-within : goal.entry_at-requires-clause-within
entry_at-requires-clause-within g c =
    let count : c.self.inside.len ≡ length c.args.self.now.items = sym (tier-length c.self.inside.blocks.items c.self.inside.len c.self.invariant.0) ∙ ap (λ t. length t.items) c.self.view_is in
    omega (arith, count, c.requires)
