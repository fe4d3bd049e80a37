use Rattle.std.proofs.Common.{arith}
use Rattle.coalesce.specs.Net.{additions}
use Rattle.coalesce.proofs.Firsts.{additions_counted, message_fits, notices_room, frame_written, frame_size}
use Rattle.coalesce.proofs.first.append_records.Goals as goal

pub append_head-requires-clause-size : goal.append_head-requires-clause-size
append_head-requires-clause-size c = message_fits (additions c.args.records.now) c.all_size-size.result (additions_counted c.args.records.now c.all_size-size.result c.requires.sent c.all_size-size.ensures)

pub append_all-requires : goal.append_all-requires
append_all-requires c = record {
  room = notices_room (additions c.args.records.now) c.args.out.now c.append_head.new.out c.all_size-size.result (additions_counted c.args.records.now c.all_size-size.result c.requires.sent c.all_size-size.ensures) c.requires.room c.append_head.ensures;
}

pub overflow_add-result : goal.overflow_add-result
overflow_add-result c =
    let counted = additions_counted c.args.records.now c.all_size-size.result c.requires.sent c.all_size-size.ensures in
    omega (arith, counted.most)

pub returns-clause-written : goal.returns-clause-written
returns-clause-written c =
    frame_written (additions c.args.records.now) c.args.out.now c.append_head.new.out c.append_all.new.out c.all_size-size.result (additions_counted c.args.records.now c.all_size-size.result c.requires.sent c.all_size-size.ensures)
    c.if-size-eq0.false c.append_head.ensures c.append_all.ensures

pub returns-clause-size : goal.returns-clause-size
returns-clause-size c = frame_size (additions c.args.records.now) c.all_size-size.result (additions_counted c.args.records.now c.all_size-size.result c.requires.sent c.all_size-size.ensures) c.if-size-eq0.false
