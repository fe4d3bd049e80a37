use Rattle.std.proofs.Common.{◌<◌, ◌≡◌, ℕ, Bool, take, refl, sym, subst, arith}
use Rattle.std.specs.Prelude.{Result, Ok, Err}
use Rattle.pushserver.specs.declared.given.Given.TheVariants as givens
use Rattle.pushserver.specs.declared.fault.HubFault.TheVariants as faults
use Rattle.hubloops.specs.Loops.{observed}
use Rattle.hubloops.proofs.Writes.{turns_at_once, silent_on, finished, waited, starved_at_give, gave_and_wrote}
use Rattle.hubloops.proofs.writer.write_on.Goals as goal

pub returns-then-turns-eq0-clause-run : goal.returns-then-turns-eq0-clause-run
returns-then-turns-eq0-clause-run g c = turns_at_once c.args.session (observed (g.G.Gate.state c.args.gate.now) (g.K.Sink.taken c.args.sink.now) (g.K.Sink.calls c.args.sink.now)) (observed (g.G.Gate.state c.done-idle.new.self) (g.K.Sink.taken c.args.sink.now) (g.K.Sink.calls c.args.sink.now)) c.args.turns c.done-idle.ensures.same refl refl c.if-turns-eq0.true

pub returns-in-Ok-Bytes-clause-run : goal.returns-in-Ok-Bytes-clause-run
returns-in-Ok-Bytes-clause-run g c =
    let more : 0 < c.args.turns = omega (arith, c.if-turns-eq0.false) in
    gave_and_wrote c.args.session (observed (g.G.Gate.state c.args.gate.now) (g.K.Sink.taken c.args.sink.now) (g.K.Sink.calls c.args.sink.now)) (observed (g.G.Gate.state c.give.new.self) (g.K.Sink.taken c.write_piece.new.sink) (g.K.Sink.calls c.write_piece.new.sink)) (g.G.Gate.state c.done-idle.new.self) c.args.buf.now c.give.new.buf (take c.in-Ok-Bytes.count c.give.new.buf) (Ok (givens.Bytes c.in-Ok-Bytes.count)) c.args.turns c.write_piece.result c.requires.some c.done-idle.ensures.same (rw c.in-Ok-Bytes.field-0-is at c.in-Ok-Bytes.ensures.call) refl more tt c.write_piece.ensures.run

pub returns-in-Ok-Worked-clause-run : goal.returns-in-Ok-Worked-clause-run
returns-in-Ok-Worked-clause-run g c =
    let more : 0 < c.args.turns = omega (arith, c.if-turns-eq0.false) in
    silent_on c.args.session (observed (g.G.Gate.state c.args.gate.now) (g.K.Sink.taken c.args.sink.now) (g.K.Sink.calls c.args.sink.now)) (observed (g.G.Gate.state c.give.new.self) (g.K.Sink.taken c.args.sink.now) (g.K.Sink.calls c.args.sink.now)) (g.G.Gate.state c.done-idle.new.self) c.args.buf.now c.give.new.buf (Ok givens.Worked) c.args.turns c.requires.some c.done-idle.ensures.same (rw c.in-Ok-Worked.field-0-is at c.in-Ok-Worked.ensures.call) refl refl refl more tt

pub returns-in-Ok-Nothing-clause-run : goal.returns-in-Ok-Nothing-clause-run
returns-in-Ok-Nothing-clause-run g c =
    let more : 0 < c.args.turns = omega (arith, c.if-turns-eq0.false) in
    waited c.args.session (observed (g.G.Gate.state c.args.gate.now) (g.K.Sink.taken c.args.sink.now) (g.K.Sink.calls c.args.sink.now)) (observed (g.G.Gate.state c.wait_on.new.gate) (g.K.Sink.taken c.wait_on.new.sink) (g.K.Sink.calls c.wait_on.new.sink)) (g.G.Gate.state c.done-idle.new.self) (g.G.Gate.state c.give.new.self) c.args.buf.now c.give.new.buf (Ok givens.Nothing) c.args.turns c.done-idle.result c.wait_on.result c.requires.some c.done-idle.ensures.same (rw c.in-Ok-Nothing.field-0-is at c.in-Ok-Nothing.ensures.call) c.wait_on.ensures.state refl c.wait_on.ensures.taken c.wait_on.ensures.calls more (λ answers. answers) (λ answers. answers) c.done-idle.ensures.answer c.wait_on.ensures.result

pub returns-in-Ok-Ending-clause-run : goal.returns-in-Ok-Ending-clause-run
returns-in-Ok-Ending-clause-run g c =
    let more : 0 < c.args.turns = omega (arith, c.if-turns-eq0.false) in
    waited c.args.session (observed (g.G.Gate.state c.args.gate.now) (g.K.Sink.taken c.args.sink.now) (g.K.Sink.calls c.args.sink.now)) (observed (g.G.Gate.state c.wait_on-in-Ok-Ending.new.gate) (g.K.Sink.taken c.wait_on-in-Ok-Ending.new.sink) (g.K.Sink.calls c.wait_on-in-Ok-Ending.new.sink)) (g.G.Gate.state c.done-idle.new.self) (g.G.Gate.state c.give.new.self) c.args.buf.now c.give.new.buf (Ok givens.Ending) c.args.turns c.done-idle.result c.wait_on-in-Ok-Ending.result c.requires.some c.done-idle.ensures.same (rw c.in-Ok-Ending.field-0-is at c.in-Ok-Ending.ensures.call) c.wait_on-in-Ok-Ending.ensures.state refl c.wait_on-in-Ok-Ending.ensures.taken c.wait_on-in-Ok-Ending.ensures.calls more (λ answers. answers) (λ answers. answers) c.done-idle.ensures.answer c.wait_on-in-Ok-Ending.ensures.result

pub returns-in-Ok-End-clause-run : goal.returns-in-Ok-End-clause-run
returns-in-Ok-End-clause-run g c =
    let more : 0 < c.args.turns = omega (arith, c.if-turns-eq0.false) in
    finished c.args.session (observed (g.G.Gate.state c.args.gate.now) (g.K.Sink.taken c.args.sink.now) (g.K.Sink.calls c.args.sink.now)) (observed (g.G.Gate.state c.give.new.self) (g.K.Sink.taken c.args.sink.now) (g.K.Sink.calls c.args.sink.now)) (g.G.Gate.state c.done-idle.new.self) c.args.buf.now c.give.new.buf (Ok (givens.End c.in-Ok-End.field-0-0)) c.args.turns c.requires.some c.done-idle.ensures.same (rw c.in-Ok-End.field-0-is at c.in-Ok-End.ensures.call) refl refl refl more tt

pub returns-in-Err-NoMemory-clause-run : goal.returns-in-Err-NoMemory-clause-run
returns-in-Err-NoMemory-clause-run g c =
    let more : 0 < c.args.turns = omega (arith, c.if-turns-eq0.false) in
    starved_at_give c.args.session (observed (g.G.Gate.state c.args.gate.now) (g.K.Sink.taken c.args.sink.now) (g.K.Sink.calls c.args.sink.now)) (observed (g.G.Gate.state c.give.new.self) (g.K.Sink.taken c.args.sink.now) (g.K.Sink.calls c.args.sink.now)) (g.G.Gate.state c.done-idle.new.self) c.args.buf.now c.give.new.buf c.args.turns c.in-Err-NoMemory.field-0 c.requires.some c.done-idle.ensures.same (rw c.in-Err-NoMemory.is at c.give.ensures.call) refl refl more

pub wait_on-requires : goal.wait_on-requires
wait_on-requires g c = rw c.in-Ok-Nothing.field-0-is at c.in-Ok-Nothing.ensures.idle

pub wait_on-requires-in-Ok-Ending : goal.wait_on-requires-in-Ok-Ending
wait_on-requires-in-Ok-Ending g c = rw c.in-Ok-Ending.field-0-is at c.in-Ok-Ending.ensures.idle
