use Rattle.std.proofs.Common.{◌∙◌, arith, subst}
use Rattle.std.proofs.lemmas.List.{take_all}
use Rattle.rrset.specs.KeyedRows.{Rows}
use Rattle.nametable.specs.Nodes.{keys_of}
use Rattle.nametable.specs.Blocks.{nodes_in}
use Rattle.nametable.proofs.KeyRoom.{HasRoomAtRows, room-rows, rows-next}
use Rattle.nametable.proofs.reserving.reserve_rows.Goals as goal

pub rows-preserved : goal.rows-preserved
rows-preserved g c =
    let made = c.in_ok-reserve_for_row.ensures in (
      made.blocks,
      made.rows ∙ c.rows.invariant.1,
      λ name. let so_far = c.rows.invariant.2 name in let more = made.kept name in omega (arith, so_far, more),
      rows-next (keys_of c.args.rows.now.rows) c.entries-key-items.result.now c.rows.key-index c.rows-item.result (nodes_in c.rows.blocks.items) (nodes_in c.reserve_for_row.new.blocks.items) c.rows-test.true c.rows-item.is
          made.rows made.kept c.rows.invariant.3 made.room,
    )

pub returns-clause-room : goal.returns-clause-room
returns-clause-room g c =
    let rows = c.args.rows.now.rows in
    room-rows rows (nodes_in c.rows.blocks.items)
    (subst (λ (l : Rows _). HasRoomAtRows (keys_of rows) l (nodes_in c.rows.blocks.items)) (take_all c.rows.key-index _ c.rows-test.false ∙ c.entries-key-items.ensures.rows) c.rows.invariant.3)
