use Rattle.std.proofs.Common.{Some, ap}
use Rattle.push_base.specs.MemStarter.{StarterState}
use Rattle.push_outside.proofs.Shelving.{adds_told}
use Rattle.push_outside.proofs.mem_outside.MemOutsideOutside.back_starter.Goals as goal

pub returns-clause-started : goal.returns-clause-started
returns-clause-started c = adds_told (λ (x : StarterState). Some x.started) _ _ _ _ (ap (λ s. s.used_starters) c.self.view_is) c.take_back.ensures
