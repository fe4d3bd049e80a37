-- The plan of the oldest entry leads to the state behind it.
use Rattle.std.proofs.Common.{◌≡◌, ◌<◌, length, arith}
use Rattle.history.proofs.LaterStarts.{leads-planned}
use Rattle.history.proofs.past.start_later.Goals as goal

pub returns-then-count-eq1-clause-later : goal.returns-then-count-eq1-clause-later
returns-then-count-eq1-clause-later c =
    let items = c.args.entries.now.items in
    let one : c.args.count ≡ 1 = omega (arith, c.if-count-eq1.true) in
    let some : 0 < length items = omega (arith, one, c.requires.within) in
    leads-planned c.args.start.now c.plan_of.new.homes c.args.moment c.args.count items c.index.result.now c.in_ok-held.held c.in_ok-held.ensures.state c.in_ok-held.ensures.held c.in_ok-held.ensures.room some c.index.ensures one
