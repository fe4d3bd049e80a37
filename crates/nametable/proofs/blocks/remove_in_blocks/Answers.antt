use Rattle.std.proofs.Common.{◌∙◌, is_some, sym, ap, subst, arith}
use Rattle.std.proofs.lemmas.List.{with_items_is}
use Rattle.std.specs.Prelude.{IsTrue}
use Rattle.rrset.specs.KeyedRows.{row_at}
use Rattle.nametable.specs.Nodes.{all_rows, room_at}
use Rattle.nametable.specs.Blocks.{Blocks, nodes_in}
use Rattle.nametable.proofs.blocks.remove_in_blocks.Goals as goal

pub returns-clause-freed : goal.returns-clause-freed
returns-clause-freed g c = λ there.
    let key = c.args.key.now in
    let more = c.remove_in_block.ensures.freed (subst (λ (bs : Blocks _). IsTrue (is_some (row_at key (all_rows (nodes_in bs))))) (sym c.deref_mut.ensures.value) there) in
    let was = ap (λ (bs : Blocks _). room_at (nodes_in bs) key.owner) c.deref_mut.ensures.value in
    let now = ap (λ (bs : Blocks _). room_at (nodes_in bs) key.owner) (with_items_is c.args.blocks.now c.remove_in_block.new.blocks (c.remove_in_block.auto.blocks ∙ c.deref_mut.ensures.len)) in
    omega (arith, more, was, now)
