use Rattle.coalesce.proofs.Firsts.{name_room, fields_room, removal_appended}
use Rattle.coalesce.proofs.first.append_class_gone.Goals as goal

pub append_lower-requires : goal.append_lower-requires
append_lower-requires c = record { room = name_room c.args.name.now c.args.out.now c.octets.result.now c.octets.ensures.octets c.requires.room }

pub append_fields-requires-clause-room : goal.append_fields-requires-clause-room
append_fields-requires-clause-room c = fields_room c.args.name.now c.args.out.now c.append_lower.new.out c.octets.result.now c.octets.ensures.octets c.append_lower.ensures c.requires.room

pub returns : goal.returns
returns c =
    removal_appended c.args.name.now c.args.out.now c.append_lower.new.out c.append_fields.new.out c.octets.result.now c.octets.ensures.name c.octets.ensures.octets
    c.append_lower.ensures c.append_fields.ensures
