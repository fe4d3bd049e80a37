use Rattle.std.proofs.Common.{arith, ◌<◌, length}
use Rattle.hubloops.proofs.LineReads.{all_begun, all_ended, all_more, goes_on_so_far}
use Rattle.hubloops.proofs.reader.feed_session.Goals as goal

pub pieces-init : goal.pieces-init
pieces-init g c = all_begun c.args.session (g.G.Gate.state c.args.gate.now) c.args.octets.now c.args.turns

pub offer-requires-clause-goes_on : goal.offer-requires-clause-goes_on
offer-requires-clause-goes_on g c = goes_on_so_far c.args.session (g.G.Gate.state c.args.gate.now) (g.G.Gate.state c.pieces.gate) c.args.octets.now c.pieces.rest.now c.pieces.left c.args.turns c.pieces.invariant c.requires

pub pieces-preserved : goal.pieces-preserved
pieces-preserved g c =
    let some : 0 < length c.pieces.rest.now = grind arith in
    all_more c.args.session (g.G.Gate.state c.args.gate.now) (g.G.Gate.state c.pieces.gate) (g.G.Gate.state c.offer.new.gate) c.args.octets.now c.pieces.rest.now c.split_at.result.1.now c.pieces.left c.args.turns c.in-Ok.count some c.pieces.invariant c.in-Ok.ensures.run c.split_at.ensures.back

pub returns-in-Err : goal.returns-in-Err
returns-in-Err g c = record { run = all_ended c.args.session (g.G.Gate.state c.args.gate.now) (g.G.Gate.state c.pieces.gate) (g.G.Gate.state c.offer.new.gate) c.args.octets.now c.pieces.rest.now c.pieces.left c.args.turns c.in-Err.end c.pieces.invariant c.in-Err.ensures.run }
