use Rattle.std.proofs.Common.{◌≡◌, ◌<◌, length, sym, ◌∙◌, arith}
use Rattle.recordindex.proofs.Walks.{reserved-end, reserved-first, reserved-more, reserved-name, reserved-stop, reserves-twice}
use Rattle.recordindex.proofs.walking.reserve.Goals as goal

pub ends-init : goal.ends-init
ends-init c = reserved-first c.args.endings.now.entries c.args.above.now c.requires

pub reserve_at-requires : goal.reserve_at-requires
reserve_at-requires c =
    let some : 0 < length c.ends.rest.now = grind arith in
    reserved-name c.args.above.now c.args.endings.now.entries c.ends.endings.entries c.ends.rest.now c.ends.invariant (omega arith)

pub returns-in_err-reserve_at-clause-kept : goal.returns-in_err-reserve_at-clause-kept
returns-in_err-reserve_at-clause-kept c = reserves-twice c.args.endings.now.entries c.ends.endings.entries c.reserve_at.new.endings.entries c.ends.invariant.stays c.reserve_at.ensures.kept

pub split_at-requires : goal.split_at-requires
split_at-requires c =
    let some : 0 < length c.ends.rest.now = grind arith in
    (reserved-more c.args.above.now c.args.endings.now.entries c.ends.endings.entries c.reserve_at.new.endings.entries c.ends.rest.now c.ends.invariant (omega arith) c.reserve_at.ensures.kept c.in_ok-reserve_at.ensures.room).1

pub ends-preserved : goal.ends-preserved
ends-preserved c =
    let some : 0 < length c.ends.rest.now = grind arith in
    rw c.split_at.ensures.back (reserved-more c.args.above.now c.args.endings.now.entries c.ends.endings.entries c.reserve_at.new.endings.entries c.ends.rest.now c.ends.invariant (omega arith) c.reserve_at.ensures.kept c.in_ok-reserve_at.ensures.room).0

pub returns-clause-kept : goal.returns-clause-kept
returns-clause-kept c = c.ends.invariant.stays

pub returns-clause-room : goal.returns-clause-room
returns-clause-room c = λ names agrees.
    let none : length c.ends.rest.now ≡ 0 = grind arith in
    reserved-end c.args.above.now c.args.endings.now.entries c.ends.endings.entries c.ends.rest.now c.ends.invariant none

pub returns-then-branch-clause-kept : goal.returns-then-branch-clause-kept
returns-then-branch-clause-kept c = reserves-twice c.args.endings.now.entries c.ends.endings.entries c.reserve_at.new.endings.entries c.ends.invariant.stays c.reserve_at.ensures.kept

pub returns-then-branch-clause-room : goal.returns-then-branch-clause-room
returns-then-branch-clause-room c = λ names agrees.
    let some : 0 < length c.ends.rest.now = grind arith in
    reserved-stop c.args.above.now c.args.endings.now.entries c.ends.endings.entries c.reserve_at.new.endings.entries c.ends.rest.now c.ends.invariant (omega arith)
    c.reserve_at.ensures.kept (sym c.if-branch.true ∙ c.in_ok-reserve_at.ensures.counted) names agrees
