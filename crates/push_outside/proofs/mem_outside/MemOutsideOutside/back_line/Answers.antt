use Rattle.std.proofs.Common.{ap}
use Rattle.push_base.specs.MemLine.{LineState}
use Rattle.push_base.specs.LineSupply.{reads_told}
use Rattle.push_outside.proofs.Shelving.{adds_told}
use Rattle.push_outside.proofs.mem_outside.MemOutsideOutside.back_line.Goals as goal

pub returns-clause-lines : goal.returns-clause-lines
returns-clause-lines c = adds_told (λ (x : LineState). reads_told x.items) _ _ _ _ (ap (λ s. s.lines) c.self.view_is) c.take_back.ensures
