use Rattle.std.proofs.Common.{◌∙◌, ◌++◌, ap, sym, cond, Bool, []}
use Rattle.std.specs.Prelude.{flat_map}
use Rattle.dsotlv.specs.Notices.{notice_octets}
use Rattle.coalesce.specs.Sides.{frame_octets}
use Rattle.coalesce.specs.Steps.{added, additions_to}
use Rattle.coalesce.proofs.OneSide.{first_short, rest_side}
use Rattle.coalesce.proofs.Turns.{append_more, append_room}
use Rattle.coalesce.proofs.adding.append_changed.Goals as goal

pub append_addition-requires-clause-rdata : goal.append_addition-requires-clause-rdata
append_addition-requires-clause-rdata c = first_short c.records.rest c.in-Some.field-0.now c.next.new.self c.records.invariant.0 c.in-Some.ensures.rest

pub append_addition-requires-clause-room : goal.append_addition-requires-clause-room
append_addition-requires-clause-room c =
    append_room c.records.out c.args.out.now (added c.in-Some.field-0.now) (additions_to c.args.old.now c.next.new.self) (additions_to c.args.old.now c.records.rest) (additions_to c.args.old.now c.args.new.now) frame_octets
    (ap (additions_to c.args.old.now) c.in-Some.ensures.rest
    ∙ ap (λ (b : Bool). cond b [] (added c.in-Some.field-0.now) ++ additions_to c.args.old.now c.next.new.self) (sym c.is_shown.ensures ∙ c.if-not-is_shown.true))
    c.requires.room c.records.invariant.1

pub records-preserved-then-not-is_shown : goal.records-preserved-then-not-is_shown
records-preserved-then-not-is_shown c = (
  rest_side c.records.rest c.in-Some.field-0.now c.next.new.self c.records.invariant.0 c.in-Some.ensures.rest,
  append_more c.records.out c.append_addition.new.out (added c.in-Some.field-0.now) (additions_to c.args.old.now c.next.new.self) (additions_to c.args.old.now c.records.rest) (c.args.out.now ++ flat_map notice_octets (additions_to c.args.old.now c.args.new.now))
      c.append_addition.ensures
      (ap (additions_to c.args.old.now) c.in-Some.ensures.rest
      ∙ ap (λ (b : Bool). cond b [] (added c.in-Some.field-0.now) ++ additions_to c.args.old.now c.next.new.self) (sym c.is_shown.ensures ∙ c.if-not-is_shown.true))
      c.records.invariant.1,
)

pub records-preserved : goal.records-preserved
records-preserved c = (
  rest_side c.records.rest c.in-Some.field-0.now c.next.new.self c.records.invariant.0 c.in-Some.ensures.rest,
  ap (λ l. c.records.out ++ flat_map notice_octets l)
      (sym (ap (additions_to c.args.old.now) c.in-Some.ensures.rest
      ∙ ap (λ (b : Bool). cond b [] (added c.in-Some.field-0.now) ++ additions_to c.args.old.now c.next.new.self) (sym c.is_shown.ensures ∙ c.if-not-is_shown.false)))
      ∙ c.records.invariant.1,
)
