use Rattle.std.proofs.Common.{arith}
use Rattle.std.proofs.lemmas.Grind.{common_steps}
use Rattle.services.proofs.listing.services_of.Goals as goal

pub instances-preserved : goal.instances-preserved
instances-preserved c = λ plain s.
    let so_far = c.instances.invariant plain s in
    let one = c.in_ok-service.ensures plain s in
    grind (arith, common_steps, so_far, one)
