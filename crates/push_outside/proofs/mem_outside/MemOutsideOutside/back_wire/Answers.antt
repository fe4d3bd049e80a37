use Rattle.std.proofs.Common.{Some, ap}
use Rattle.push_base.specs.MemSink.{SinkState}
use Rattle.push_outside.proofs.Shelving.{adds_told}
use Rattle.push_outside.proofs.mem_outside.MemOutsideOutside.back_wire.Goals as goal

pub returns-clause-wires : goal.returns-clause-wires
returns-clause-wires c = adds_told (λ (x : SinkState). Some x.taken) _ _ _ _ (ap (λ s. s.wires) c.self.view_is) c.take_back.ensures
