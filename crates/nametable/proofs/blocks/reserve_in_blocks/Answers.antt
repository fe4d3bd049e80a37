use Rattle.std.proofs.Common.{◌≡◌, ◌≤◌, ◌∙◌, false, is_some, sym, ap, subst}
use Rattle.std.proofs.lemmas.List.{with_items_is}
use Rattle.std.specs.Result.{OnOk}
use Rattle.rrset.specs.KeyedRows.{Rows, row_at}
use Rattle.nametable.specs.Nodes.{Nodes, all_rows, has_row, room_at}
use Rattle.nametable.specs.Blocks.{Blocks, nodes_in}
use Rattle.nametable.proofs.blocks.reserve_in_blocks.Goals as goal

pub returns-clause-room : goal.returns-clause-room
returns-clause-room g c =
    let key = c.args.key.now in
    let made = c.reserve_in_block-made in
    let later = c.keep_small.ensures.nodes ∙ ap nodes_in (with_items_is c.begin.new.blocks made.new.blocks (made.auto.blocks ∙ c.deref_mut.ensures.len)) in
    subst (λ (l : Rows _). OnOk made.result (is_some (row_at key l) ≡ false → c.args.keys ≤ room_at (nodes_in c.keep_small.new.blocks.items) key.owner))
    (ap (λ (bs : Blocks _). all_rows (nodes_in bs)) c.deref_mut.ensures.value ∙ c.in_ok-begin.ensures.rows)
    (subst (λ (ns : Nodes _). OnOk made.result (has_row (nodes_in c.deref_mut.result.now) key ≡ false → c.args.keys ≤ room_at ns key.owner)) (sym later) made.ensures.room)
