-- One link more has its plan.
use Rattle.std.proofs.Common.{◌<◌, length, arith}
use Rattle.history.proofs.LinkSlots.{moments-more}
use Rattle.history.proofs.link_lists.moments.Goals as goal

pub links-preserved : goal.links-preserved
links-preserved c =
    let within : c.links.index < length c.links.links = omega (arith, c.links-test.true, c.links.auto.links) in
    moments-more c.args.links.now c.links.links c.moment_at.new.links c.args.now c.links.plans.items c.push.new.self.items c.in_ok-moment_at.field-0 c.links.index c.links.invariant within c.in_ok-moment_at.ensures.plan c.in_ok-moment_at.ensures.states
    c.in_ok-moment_at.ensures.room c.in_ok-moment_at.ensures.front c.in_ok-push.ensures.items
