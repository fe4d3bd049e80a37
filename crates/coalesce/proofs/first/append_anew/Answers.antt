use Rattle.std.proofs.Common.{◌+◌, arith}
use Rattle.dnsname.specs.Names.{lower}
use Rattle.rrset.specs.Kinds.{in_class}
use Rattle.dsotlv.specs.declared.message.Notice.TheVariants.{RemoveClass}
use Rattle.coalesce.specs.Net.{additions, all_anew}
use Rattle.coalesce.proofs.Firsts.{anew_counted, message_fits, notices_room, first_room, others_room, both_appended, some_counted, frame_written, frame_size}
use Rattle.coalesce.proofs.first.append_anew.Goals as goal

pub overflow_add-size : goal.overflow_add-size
overflow_add-size c =
    let counted = anew_counted c.args.name.now c.args.records.now c.record_size.result c.all_size.result c.requires.sent c.record_size.ensures.size c.record_size.ensures.most c.all_size.ensures in
    omega (arith, counted.most)

pub append_head-requires-clause-size : goal.append_head-requires-clause-size
append_head-requires-clause-size c =
    message_fits (all_anew (lower c.args.name.now) c.args.records.now) (c.record_size.result + c.all_size.result)
    (anew_counted c.args.name.now c.args.records.now c.record_size.result c.all_size.result c.requires.sent c.record_size.ensures.size c.record_size.ensures.most c.all_size.ensures)

pub append_class_gone-requires : goal.append_class_gone-requires
append_class_gone-requires c =
    let counted = anew_counted c.args.name.now c.args.records.now c.record_size.result c.all_size.result c.requires.sent c.record_size.ensures.size c.record_size.ensures.most c.all_size.ensures in
    record {
      room = first_room (RemoveClass (lower c.args.name.now) in_class) (additions c.args.records.now) c.append_head.new.out
          (notices_room (all_anew (lower c.args.name.now) c.args.records.now) c.args.out.now c.append_head.new.out (c.record_size.result + c.all_size.result) counted c.requires.room c.append_head.ensures);
    }

pub append_all-requires : goal.append_all-requires
append_all-requires c =
    let counted = anew_counted c.args.name.now c.args.records.now c.record_size.result c.all_size.result c.requires.sent c.record_size.ensures.size c.record_size.ensures.most c.all_size.ensures in
    record {
      room = others_room (RemoveClass (lower c.args.name.now) in_class) (additions c.args.records.now) c.append_head.new.out c.append_class_gone.new.out
          (notices_room (all_anew (lower c.args.name.now) c.args.records.now) c.args.out.now c.append_head.new.out (c.record_size.result + c.all_size.result) counted c.requires.room c.append_head.ensures)
          c.append_class_gone.ensures;
    }

pub overflow_add-result : goal.overflow_add-result
overflow_add-result c =
    let counted = anew_counted c.args.name.now c.args.records.now c.record_size.result c.all_size.result c.requires.sent c.record_size.ensures.size c.record_size.ensures.most c.all_size.ensures in
    omega (arith, counted.most)

pub returns-clause-written : goal.returns-clause-written
returns-clause-written c =
    let counted = anew_counted c.args.name.now c.args.records.now c.record_size.result c.all_size.result c.requires.sent c.record_size.ensures.size c.record_size.ensures.most c.all_size.ensures in
    let gone = RemoveClass (lower c.args.name.now) in_class in
    frame_written (all_anew (lower c.args.name.now) c.args.records.now) c.args.out.now c.append_head.new.out c.append_all.new.out (c.record_size.result + c.all_size.result) counted
    (some_counted gone (additions c.args.records.now) (c.record_size.result + c.all_size.result) counted) c.append_head.ensures
    (both_appended gone (additions c.args.records.now) c.append_head.new.out c.append_class_gone.new.out c.append_all.new.out c.append_class_gone.ensures c.append_all.ensures)

pub returns-clause-size : goal.returns-clause-size
returns-clause-size c =
    let counted = anew_counted c.args.name.now c.args.records.now c.record_size.result c.all_size.result c.requires.sent c.record_size.ensures.size c.record_size.ensures.most c.all_size.ensures in
    frame_size (all_anew (lower c.args.name.now) c.args.records.now) (c.record_size.result + c.all_size.result) counted
    (some_counted (RemoveClass (lower c.args.name.now) in_class) (additions c.args.records.now) (c.record_size.result + c.all_size.result) counted)
