use Rattle.std.proofs.Common.{ap}
use Rattle.push_base.specs.MemClock.{moments_told}
use Rattle.push_outside.proofs.Shelving.{adds_told}
use Rattle.push_outside.proofs.mem_outside.MemOutsideOutside.back_clock.Goals as goal

pub returns-clause-moments : goal.returns-clause-moments
returns-clause-moments c = adds_told (moments_told) _ _ _ _ (ap (λ s. s.used_clocks) c.self.view_is) c.take_back.ensures
