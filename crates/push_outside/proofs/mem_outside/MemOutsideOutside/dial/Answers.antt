use Rattle.std.proofs.Common.{Some, ◌≡◌}
use Rattle.push_base.specs.MemLine.{LineState}
use Rattle.push_base.specs.MemSink.{SinkState}
use Rattle.push_base.specs.LineSupply.{given_octets, reads_told}
use Rattle.push_outside.specs.Outside.{IsFresh}
use Rattle.push_outside.specs.MemOutside.{IsNewPair}
use Rattle.push_outside.proofs.Shelving.{is_new}
use Rattle.push_outside.proofs.mem_outside.MemOutsideOutside.dial.Goals as goal

pub returns-clause-line_faults : goal.returns-clause-line_faults
returns-clause-line_faults c = is_new IsNewPair (λ (ends : LineState × SinkState). ends.0.calls.faults ≡ 0) (λ ends new. new.0.0) _ _ _ _ _ _ c.self.invariant.connections c.hand_out-made.ensures

pub returns-clause-wire_faults : goal.returns-clause-wire_faults
returns-clause-wire_faults c = is_new IsNewPair (λ (ends : LineState × SinkState). ends.1.calls.faults ≡ 0) (λ ends new. new.1.0) _ _ _ _ _ _ c.self.invariant.connections c.hand_out-made.ensures

pub returns-clause-fresh_line : goal.returns-clause-fresh_line
returns-clause-fresh_line c = is_new IsNewPair (λ (ends : LineState × SinkState). IsFresh (Some (given_octets ends.0.items)) × IsFresh (reads_told ends.0.items)) (λ ends new. (new.0.1, new.0.2)) _ _ _ _ _ _ c.self.invariant.connections c.hand_out-made.ensures

pub returns-clause-fresh_wire : goal.returns-clause-fresh_wire
returns-clause-fresh_wire c = is_new IsNewPair (λ (ends : LineState × SinkState). IsFresh (Some ends.1.taken)) (λ ends new. new.1.1) _ _ _ _ _ _ c.self.invariant.connections c.hand_out-made.ensures
