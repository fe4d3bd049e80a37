use Rattle.std.proofs.Common.{Some, ap}
use Rattle.push_base.specs.MemDoors.{DoorsState}
use Rattle.push_base.specs.MemLine.{LineState}
use Rattle.push_base.specs.MemSink.{SinkState}
use Rattle.push_outside.proofs.Shelving.{adds_told}
use Rattle.push_outside.proofs.mem_outside.MemOutsideOutside.back_doors.Goals as goal

pub returns-clause-accepted : goal.returns-clause-accepted
returns-clause-accepted c = adds_told (λ (x : DoorsState LineState SinkState). Some x.accepted) _ _ _ _ (ap (λ s. s.doors) c.self.view_is) c.take_back.ensures
