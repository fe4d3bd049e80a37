use Rattle.std.proofs.Common.{◌++◌, ◌∙◌, ap, arith}
use Rattle.dnswire.proofs.RecordSizes.{few-records}
use Rattle.relay.proofs.Messages.{written}
use Rattle.relay.proofs.relay.message.Goals as goal

pub overflow_cast-count : goal.overflow_cast-count
overflow_cast-count c = omega (arith, few-records c.args.entries.now, c.requires)

pub overflow_add-count : goal.overflow_add-count
overflow_add-count c = omega (arith, few-records c.args.entries.now, c.requires)

pub returns : goal.returns
returns c =
    c.from_vec.ensures
    ∙ written c.args.zone.now c.args.name.now c.args.entries.now c.args.id c.extend_from_slice.new.self.items c.write_question.new.out.items c.write_record.new.out.items c.write_records.new.out.items
    (c.in_ok-extend_from_slice.ensures.items ∙ ap (λ l. l ++ c.message_header.result) c.new-out.ensures.items ∙ c.message_header.ensures) c.in_ok-write_question.ensures.octets c.in_ok-write_record.ensures c.in_ok-write_records.ensures
