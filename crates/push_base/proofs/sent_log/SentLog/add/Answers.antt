use Rattle.std.proofs.Common.{◌+◌, ◌<◌, ◌++◌, ◌∷◌, [], length, vec_capacity, ap, subst, ◌∙◌, arith}
use Rattle.push_base.specs.SentLog.{SentDatagrams, room_taken, after_adding}
use Rattle.push_base.proofs.SentLogLemmas.{full_at_parts, full_at_octets, on_err, is_added}
use Rattle.push_base.proofs.sent_log.SentLog.add.Goals as goal

pub returns-in_err-reserve-clause-full : goal.returns-in_err-reserve-clause-full
returns-in_err-reserve-clause-full c =
    let long = c.self.inside.parts.ok.0 in
    let refused = c.in_err-reserve.ensures.full in
    let full : vec_capacity c.self.inside.parts < length c.self.inside.parts.items + 1 = omega (arith, long, refused) in
    on_err c.from_residual.result (subst (λ (v : SentDatagrams). v.room < room_taken (v.datagrams ++ c.args.datagram.now ∷ [])) c.self.view_is
    (full_at_parts c.self.inside.octets.items c.self.inside.parts.items c.args.datagram.now c.self.inside.room (vec_capacity c.self.inside.parts)
    c.self.invariant.parts c.self.invariant.parts_fit full))

pub returns-in_err-extend_from_slice-clause-full :
    goal.returns-in_err-extend_from_slice-clause-full
returns-in_err-extend_from_slice-clause-full c =
    let long = c.self.inside.octets.ok.0 in
    let refused = c.in_err-extend_from_slice.ensures.full in
    let full : vec_capacity c.self.inside.octets < length c.self.inside.octets.items + length c.args.datagram.now = omega (arith, long, refused) in
    on_err c.from_residual-in_err-extend_from_slice.result (subst (λ (v : SentDatagrams). v.room < room_taken (v.datagrams ++ c.args.datagram.now ∷ [])) c.self.view_is
    (full_at_octets c.self.inside.octets.items c.self.inside.parts.items c.args.datagram.now c.self.inside.room (vec_capacity c.self.inside.octets)
    c.self.invariant.parts c.self.invariant.octets_fit full))

pub invariant_of-self-2 : goal.invariant_of-self-2
invariant_of-self-2 c =
    let was = c.self.inside.octets.ok.0 in
    let is = c.extend_from_slice.new.self.ok.0 in
    let begin = c.len-start.ensures in
    let last = c.len-end.ensures in
    let more = is_added c.self.inside.octets.items c.extend_from_slice.new.self.items c.args.datagram.now c.self.inside.parts.items c.reserve.new.self.items c.push.new.self.items
    c.len-start.result c.len-end.result _ c.in_ok-reserve.ensures.items c.if-is_err.ensures.negation c.push.ensures.items c.in_ok-extend_from_slice.ensures.items
    (omega (arith, was, begin)) (omega (arith, is, last)) c.self.invariant.parts in
    let octets_more = c.extend_from_slice.ensures.capacity in
    let reserved = c.reserve.ensures.capacity in
    let parts_more = c.push.ensures.capacity in
    let octets_fit = c.self.invariant.octets_fit in
    let parts_fit = c.self.invariant.parts_fit in
    record { parts = more.are; octets_fit = omega (arith, octets_more, octets_fit); parts_fit = omega (arith, reserved, parts_more, parts_fit) }

pub returns-clause-ok : goal.returns-clause-ok
returns-clause-ok c =
    let was = c.self.inside.octets.ok.0 in
    let is = c.extend_from_slice.new.self.ok.0 in
    let begin = c.len-start.ensures in
    let last = c.len-end.ensures in
    let more = is_added c.self.inside.octets.items c.extend_from_slice.new.self.items c.args.datagram.now c.self.inside.parts.items c.reserve.new.self.items c.push.new.self.items
    c.len-start.result c.len-end.result _ c.in_ok-reserve.ensures.items c.if-is_err.ensures.negation c.push.ensures.items c.in_ok-extend_from_slice.ensures.items
    (omega (arith, was, begin)) (omega (arith, is, last)) c.self.invariant.parts in
    ap (λ ds. record { datagrams = ds; room = c.self.inside.room }) more.datagrams ∙ ap (after_adding c.args.datagram.now) c.self.view_is
