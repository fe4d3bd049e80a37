use Rattle.std.proofs.Common.{◌∙◌, List, arith, subst}
use Rattle.std.proofs.lemmas.List.{take_all}
use Rattle.rrset.specs.declared.record.Changed.{Changed}
use Rattle.nametable.specs.Nodes.{keys_put}
use Rattle.nametable.specs.Blocks.{nodes_in}
use Rattle.nametable.proofs.KeyRoom.{HasRoomAtOwners, owners-next, room-all}
use Rattle.nametable.proofs.reserving.reserve_all.Goals as goal

pub changes-preserved : goal.changes-preserved
changes-preserved g c =
    let changed = c.args.changed.now in (
      c.in_ok-reserve_for_one.ensures.blocks,
      c.in_ok-reserve_for_one.ensures.rows ∙ c.changes.invariant.1,
      λ name. let so_far = c.changes.invariant.2 name in let more = c.in_ok-reserve_for_one.ensures.kept name in omega (arith, so_far, more),
      owners-next (keys_put changed) changed c.changes.change-index c.change-item.result (nodes_in c.changes.blocks.items) (nodes_in c.reserve_for_one.new.blocks.items) c.changes-test.true c.change-item.is
          c.in_ok-reserve_for_one.ensures.rows c.in_ok-reserve_for_one.ensures.kept c.changes.invariant.3 c.in_ok-reserve_for_one.ensures.room,
    )

pub returns-clause-room : goal.returns-clause-room
returns-clause-room g c =
    let changed = c.args.changed.now in
    room-all changed (nodes_in c.changes.blocks.items)
    (subst (λ (l : List Changed). HasRoomAtOwners (keys_put changed) l (nodes_in c.changes.blocks.items)) (take_all c.changes.change-index changed c.changes-test.false) c.changes.invariant.3)
