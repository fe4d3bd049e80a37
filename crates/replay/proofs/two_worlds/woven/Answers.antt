use Rattle.replay.proofs.halves.Weaving.{weaves-there}
use Rattle.replay.proofs.two_worlds.woven.Goals as goal

pub turns-preserved : goal.turns-preserved
turns-preserved g c =
    weaves-there c.args.order.now c.turns.is_far-index _ c.turns.all.items c.put_if.new.all.items c.next_of-next.result c.turns.near.items c.turns.far.items c.next_of-next.new.near.items c.next_of-next.new.far.items _ c.turns-test.true
    c.next_of-next.ensures c.in_ok-put_if.ensures c.turns.invariant
