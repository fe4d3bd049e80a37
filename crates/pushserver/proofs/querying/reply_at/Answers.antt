-- The records of an index can be replied, and they are those at the newest point.
use Rattle.std.proofs.Common.{◌∙◌, ap, subst}
use Rattle.rrset.specs.RecordSet.{RecordSet, is_in_order}
use Rattle.rrset.specs.declared.record.Shown.{Shown}
use Rattle.history.specs.Kept.{state_of, state_now as past_state}
use Rattle.nametable.specs.Blocks.{nodes_in}
use Rattle.nametable.specs.Nodes.{NodesState}
use Rattle.nametable.proofs.AllRows.{rising-all_rows}
use Rattle.nametable.proofs.RisingRows.{Rising, is_true}
use Rattle.pushserver.proofs.Replying.{reply-is}
use Rattle.pushserver.proofs.told_rows.Replied.{told-replied}
use Rattle.pushserver.proofs.querying.reply_at.Goals as goal

pub write_reply_to-requires-clause-records : goal.write_reply_to-requires-clause-records
write_reply_to-requires-clause-records c =
    let same = c.blocks-2.ensures.rows ∙ ap (λ (t : NodesState Shown). t.rows) c.table.ensures ∙ c.index.ensures in
    let order = subst (λ (rows : RecordSet). Rising rows) same (rising-all_rows (nodes_in c.blocks-2.result.now) c.blocks-2.ensures.nodes) in
    told-replied c.args.index.now.rows (is_true (is_in_order c.args.index.now.rows) order) c.requires.told

pub returns-clause-octets : goal.returns-clause-octets
returns-clause-octets c = λ same.
    reply-is (past_state c.args.points.now.past) (state_of c.homes.result.now) c.args.index.now.rows c.args.message.now c.in_ok-reply.reply.items _ c.in_ok-reply.ensures.items c.in_ok-write_reply_to.ensures.octets c.homes.ensures same
