use Rattle.std.proofs.Common.{◌++◌, ap}
use Rattle.std.specs.Prelude.{flat_map}
use Rattle.rrset.specs.declared.record.Key.{Key}
use Rattle.dsotlv.specs.Notices.{notice_octets}
use Rattle.coalesce.specs.Sides.{frame_octets}
use Rattle.coalesce.specs.Touched.{addition_at, came, came_at}
use Rattle.coalesce.specs.Waiting.{OldValue}
use Rattle.coalesce.proofs.Turns.{append_more, append_room}
use Rattle.coalesce.proofs.touched.append_came.Goals as goal

pub append_at-requires-clause-room : goal.append_at-requires-clause-room
append_at-requires-clause-room c =
    let t = c.args.touched.now in
    let v = c.in-Some.value.now in
    append_room c.values.out c.args.out.now (addition_at v.0 (came_at t v)) (flat_map (λ (v : Key × OldValue). addition_at v.0 (came_at t v)) c.in-Some.others.now)
    (flat_map (λ (v : Key × OldValue). addition_at v.0 (came_at t v)) c.values.rest.now) (came t) frame_octets
    (ap (flat_map (λ (v : Key × OldValue). addition_at v.0 (came_at t v))) c.in-Some.ensures.cases.0)
    c.requires.room c.values.invariant

pub values-preserved : goal.values-preserved
values-preserved c =
    let t = c.args.touched.now in
    let v = c.in-Some.value.now in
    append_more c.values.out c.append_at.new.out (addition_at v.0 (came_at t v)) (flat_map (λ (v : Key × OldValue). addition_at v.0 (came_at t v)) c.in-Some.others.now)
    (flat_map (λ (v : Key × OldValue). addition_at v.0 (came_at t v)) c.values.rest.now) (c.args.out.now ++ flat_map notice_octets (came t))
    c.append_at.ensures
    (ap (flat_map (λ (v : Key × OldValue). addition_at v.0 (came_at t v))) c.in-Some.ensures.cases.0)
    c.values.invariant
