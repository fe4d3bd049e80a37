use Rattle.std.proofs.Common.{◌≡◌, ◌-◌, ◌*◌, ◌∙◌, length, sym, ap, arith}
use Rattle.std.proofs.lemmas.List.{with_items_is}
use Rattle.clockqueue.proofs.Sizes.{tier-length}
use Rattle.clockqueue.proofs.blocks.Blocks.remove.Goals as goal

pub take_out-entry-requires-clause-within : goal.take_out-entry-requires-clause-within
take_out-entry-requires-clause-within g c =
    let count : c.self.inside.len ≡ length c.args.self.now.items = sym (tier-length c.self.inside.blocks.items c.self.inside.len c.self.invariant.0) ∙ ap (λ t. length t.items) c.self.view_is in
    omega (arith, count, c.requires)

pub overflow_sub-self : goal.overflow_sub-self
overflow_sub-self g c =
    let count : c.self.inside.len ≡ length c.args.self.now.items = sym (tier-length c.self.inside.blocks.items c.self.inside.len c.self.invariant.0) ∙ ap (λ t. length t.items) c.self.view_is in
    omega (arith, count, c.requires)

pub returns-clause-room : goal.returns-clause-room
returns-clause-room g c =
    let bs = c.self.inside.blocks.items in
    let count : c.self.inside.len ≡ length c.args.self.now.items = sym (tier-length bs c.self.inside.len c.self.invariant.0) ∙ ap (λ t. length t.items) c.self.view_is in
    let same : length c.take_out-entry.new.blocks ≡ length bs = c.take_out-entry.ensures.count ∙ ap (λ l. length l) c.deref_mut.ensures.value in
    let spare : 1024 * length bs - c.self.inside.len ≡ c.args.self.now.spare = ap (λ t. t.spare) c.self.view_is in
    let within = c.self.invariant.0.within in
    ap (λ l. 1024 * length l - (c.self.inside.len - 1)) (with_items_is c.self.inside.blocks c.take_out-entry.new.blocks (c.take_out-entry.auto.blocks ∙ c.deref_mut.ensures.len))
    ∙ omega (arith, same, spare, count, c.requires, within)
