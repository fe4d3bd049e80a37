use Rattle.std.proofs.Common.{◌+◌, ◌≤◌, List, ◌++◌, ◌∙◌, ap, sym, subst, length, None}
use Rattle.std.specs.Prelude.{flat_map}
use Rattle.dsotlv.specs.Notices.{notice_octets}
use Rattle.dsotlv.specs.declared.message.Notice.{Notice}
use Rattle.coalesce.specs.Net.{size_of_notices}
use Rattle.coalesce.specs.Sides.{IsOneSide, frame_octets}
use Rattle.coalesce.specs.Steps.{notices_as, removals_behind}
use Rattle.coalesce.specs.declared.form.Form.{Form}
use Rattle.coalesce.proofs.Forms.{single_room, single_room_left, single_appended}
use Rattle.coalesce.proofs.TouchedSides.{old_one, gone_one, removals_at, additions_at}
use Rattle.coalesce.proofs.waiting_net.append_form.Goals as goal

pub append_removals-requires : goal.append_removals-requires
append_removals-requires c =
    let room = subst (λ (f : Form). length c.args.out.now + size_of_notices (notices_as f c.args.name.now c.args.old.now c.args.new.now) ≤ frame_octets) c.in-Single.is c.requires.room in
    let one = old_one c.args.touched.now c.args.old.now c.requires.touched c.requires.old in
    let same = removals_at c.args.touched.now c.args.name.now c.args.old.now c.args.new.now c.requires.touched c.requires.old c.requires.new in
    record {
      side = subst IsOneSide (sym c.gone_records.ensures) (gone_one c.args.touched.now c.requires.touched);
      room = subst (λ (ns : List Notice). length c.args.out.now + size_of_notices ns ≤ frame_octets) (sym (ap (removals_behind c.args.name.now c.args.new.now None) c.gone_records.ensures ∙ same))
          (single_room c.args.name.now c.args.old.now c.args.new.now c.args.out.now frame_octets one room);
    }

pub append_came-requires : goal.append_came-requires
append_came-requires c =
    let room = subst (λ (f : Form). length c.args.out.now + size_of_notices (notices_as f c.args.name.now c.args.old.now c.args.new.now) ≤ frame_octets) c.in-Single.is c.requires.room in
    let one = old_one c.args.touched.now c.args.old.now c.requires.touched c.requires.old in
    let same = removals_at c.args.touched.now c.args.name.now c.args.old.now c.args.new.now c.requires.touched c.requires.old c.requires.new in
    let written = c.append_removals.ensures ∙ ap (λ (ns : List Notice). c.args.out.now ++ flat_map notice_octets ns) (ap (removals_behind c.args.name.now c.args.new.now None) c.gone_records.ensures ∙ same) in
    record {
      touched = c.requires.touched.0;
      side = c.requires.touched.2;
      room = subst (λ (ns : List Notice). length c.append_removals.new.out + size_of_notices ns ≤ frame_octets) (sym (additions_at c.args.touched.now c.args.old.now c.args.new.now c.requires.touched c.requires.old c.requires.new))
          (single_room_left c.args.name.now c.args.old.now c.args.new.now c.args.out.now c.append_removals.new.out frame_octets one room written);
    }

pub returns-in-Single : goal.returns-in-Single
returns-in-Single c =
    let one = old_one c.args.touched.now c.args.old.now c.requires.touched c.requires.old in
    let same = removals_at c.args.touched.now c.args.name.now c.args.old.now c.args.new.now c.requires.touched c.requires.old c.requires.new in
    let written = c.append_removals.ensures ∙ ap (λ (ns : List Notice). c.args.out.now ++ flat_map notice_octets ns) (ap (removals_behind c.args.name.now c.args.new.now None) c.gone_records.ensures ∙ same) in
    let came = c.append_came.ensures ∙ ap (λ (ns : List Notice). c.append_removals.new.out ++ flat_map notice_octets ns) (additions_at c.args.touched.now c.args.old.now c.args.new.now c.requires.touched c.requires.old c.requires.new) in
    single_appended c.args.name.now c.args.old.now c.args.new.now c.args.out.now c.append_removals.new.out c.append_came.new.out one written came
    ∙ ap (λ (f : Form). c.args.out.now ++ flat_map notice_octets (notices_as f c.args.name.now c.args.old.now c.args.new.now)) (sym c.in-Single.is)

pub append_notices-requires : goal.append_notices-requires
append_notices-requires c = record { side = old_one c.args.touched.now c.args.old.now c.requires.touched c.requires.old; room = c.requires.room }
