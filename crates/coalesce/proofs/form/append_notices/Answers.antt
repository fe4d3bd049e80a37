use Rattle.std.proofs.Common.{◌+◌, ◌≤◌, ◌++◌, ◌∙◌, ap, sym, subst, length, None}
use Rattle.std.specs.Prelude.{flat_map}
use Rattle.rrset.specs.RecordSet.{RecordSet}
use Rattle.dsotlv.specs.Notices.{notice_octets}
use Rattle.coalesce.specs.Net.{size_of_notices}
use Rattle.coalesce.specs.Sides.{IsOneSide, frame_octets}
use Rattle.coalesce.specs.Steps.{notices_as, removals_behind}
use Rattle.coalesce.specs.declared.form.Form.{Form}
use Rattle.coalesce.proofs.Forms.{single_room, single_room_left, single_appended}
use Rattle.coalesce.proofs.form.append_notices.Goals as goal

pub append_removals-requires : goal.append_removals-requires
append_removals-requires c =
    let room = subst (λ (f : Form). length c.args.out.now + size_of_notices (notices_as f c.args.name.now c.args.old.now c.args.new.now) ≤ frame_octets) c.in-Single.is c.requires.room in
    record {
      side = subst IsOneSide (sym c.records.ensures.rows) c.requires.side;
      room = subst (λ (l : RecordSet). length c.args.out.now + size_of_notices (removals_behind c.args.name.now c.args.new.now None l) ≤ frame_octets) (sym c.records.ensures.rows)
          (single_room c.args.name.now c.args.old.now c.args.new.now c.args.out.now frame_octets c.requires.side room);
    }

pub append_changed-requires : goal.append_changed-requires
append_changed-requires c =
    let room = subst (λ (f : Form). length c.args.out.now + size_of_notices (notices_as f c.args.name.now c.args.old.now c.args.new.now) ≤ frame_octets) c.in-Single.is c.requires.room in
    let written = c.append_removals.ensures ∙ ap (λ (l : RecordSet). c.args.out.now ++ flat_map notice_octets (removals_behind c.args.name.now c.args.new.now None l)) c.records.ensures.rows in
    record { room = single_room_left c.args.name.now c.args.old.now c.args.new.now c.args.out.now c.append_removals.new.out frame_octets c.requires.side room written }

pub returns-in-Single : goal.returns-in-Single
returns-in-Single c =
    let written = c.append_removals.ensures ∙ ap (λ (l : RecordSet). c.args.out.now ++ flat_map notice_octets (removals_behind c.args.name.now c.args.new.now None l)) c.records.ensures.rows in
    single_appended c.args.name.now c.args.old.now c.args.new.now c.args.out.now c.append_removals.new.out c.append_changed.new.out c.requires.side written c.append_changed.ensures
    ∙ ap (λ (f : Form). c.args.out.now ++ flat_map notice_octets (notices_as f c.args.name.now c.args.old.now c.args.new.now)) (sym c.in-Single.is)
