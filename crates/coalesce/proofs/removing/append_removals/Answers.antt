use Rattle.std.proofs.Common.{◌∙◌, ◌++◌, ap, sym, Some, None}
use Rattle.std.specs.Prelude.{flat_map}
use Rattle.dsotlv.specs.Notices.{notice_octets}
use Rattle.coalesce.specs.Sides.{frame_octets}
use Rattle.coalesce.specs.Steps.{removal_notices, removals_behind}
use Rattle.coalesce.proofs.OneSide.{first_short, rest_side}
use Rattle.coalesce.proofs.Turns.{append_more, append_room}
use Rattle.coalesce.proofs.removing.append_removals.Goals as goal

pub append_removal-requires-clause-rdata : goal.append_removal-requires-clause-rdata
append_removal-requires-clause-rdata c = first_short c.records.rest c.in-Some.field-0.now c.next.new.self c.records.invariant.0 c.in-Some.ensures.rest

pub append_removal-requires-clause-room : goal.append_removal-requires-clause-room
append_removal-requires-clause-room c =
    let name = c.args.name.now in
    let new = c.args.new.now in
    let e = c.in-Some.field-0.now in
    append_room c.records.out c.args.out.now (removal_notices name e c.removal_at-removal.result) (removals_behind name new (Some e.0.kind) c.next.new.self)
    (removals_behind name new c.records.before c.records.rest) (removals_behind name new None c.args.rest) frame_octets
    (ap (removals_behind name new c.records.before) c.in-Some.ensures.rest
    ∙ ap (λ r. removal_notices name e r ++ removals_behind name new (Some e.0.kind) c.next.new.self) (sym c.removal_at-removal.ensures))
    c.requires.room c.records.invariant.1

pub records-preserved : goal.records-preserved
records-preserved c =
    let name = c.args.name.now in
    let new = c.args.new.now in
    let e = c.in-Some.field-0.now in (
      rest_side c.records.rest e c.next.new.self c.records.invariant.0 c.in-Some.ensures.rest,
      append_more c.records.out c.append_removal.new.out (removal_notices name e c.removal_at-removal.result) (removals_behind name new (Some e.0.kind) c.next.new.self)
          (removals_behind name new c.records.before c.records.rest) (c.args.out.now ++ flat_map notice_octets (removals_behind name new None c.args.rest))
          c.append_removal.ensures
          (ap (removals_behind name new c.records.before) c.in-Some.ensures.rest
          ∙ ap (λ r. removal_notices name e r ++ removals_behind name new (Some e.0.kind) c.next.new.self) (sym c.removal_at-removal.ensures))
          c.records.invariant.1,
    )
