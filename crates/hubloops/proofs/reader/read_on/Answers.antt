use Rattle.std.proofs.Common.{◌<◌, ◌≤◌, length, refl, arith, take}
use Rattle.std.proofs.lemmas.List.{length-take}
use Rattle.hubloops.specs.Loops.{observed}
use Rattle.hubloops.specs.Gates.{GoesOn}
use Rattle.hubloops.proofs.Leading.{goes_on_by}
use Rattle.hubloops.proofs.LineReads.{done_at_once, turns_at_once, finished_by_line, failed_by_line, quiet_turn, read_turn}
use Rattle.hubloops.proofs.reader.read_on.Goals as goal

pub returns-then-done-clause-run : goal.returns-then-done-clause-run
returns-then-done-clause-run g c = done_at_once c.args.session (observed (g.G.Gate.state c.args.gate.now) (g.L.Line.given c.args.line.now) (g.L.Line.calls c.args.line.now)) (observed (g.G.Gate.state c.done.new.self) (g.L.Line.given c.args.line.now) (g.L.Line.calls c.args.line.now)) (g.L.Line.left c.args.line.now) c.args.turns c.done.result c.done.ensures.same refl refl c.done.ensures.answer c.if-done.true

pub returns-then-turns-eq0-clause-run : goal.returns-then-turns-eq0-clause-run
returns-then-turns-eq0-clause-run g c =
    let on : GoesOn (g.G.Gate.state c.done.new.self) = goes_on_by (g.G.Gate.state c.args.gate.now) (g.G.Gate.state c.done.new.self) c.done.result c.done.ensures.same c.done.ensures.answer c.if-done.false in
    turns_at_once c.args.session (observed (g.G.Gate.state c.args.gate.now) (g.L.Line.given c.args.line.now) (g.L.Line.calls c.args.line.now)) (observed (g.G.Gate.state c.done.new.self) (g.L.Line.given c.args.line.now) (g.L.Line.calls c.args.line.now)) (g.L.Line.left c.args.line.now) c.args.turns c.done.ensures.same refl refl c.if-turns-eq0.true on

pub returns-in-Ok-Bytes-clause-run : goal.returns-in-Ok-Bytes-clause-run
returns-in-Ok-Bytes-clause-run g c =
    let more : 0 < c.args.turns = omega (arith, c.if-turns-eq0.false) in
    let few : length (take c.in-Ok-Bytes.count c.recv.new.buf) ≤ 4096 = omega (arith, length-take c.in-Ok-Bytes.count c.recv.new.buf, c.recv.auto.buf, c.requires.few) in
    let on : GoesOn (g.G.Gate.state c.done.new.self) = goes_on_by (g.G.Gate.state c.args.gate.now) (g.G.Gate.state c.done.new.self) c.done.result c.done.ensures.same c.done.ensures.answer c.if-done.false in
    read_turn c.args.session (observed (g.G.Gate.state c.args.gate.now) (g.L.Line.given c.args.line.now) (g.L.Line.calls c.args.line.now)) (observed (g.G.Gate.state c.feed_session.new.gate) (g.L.Line.given c.recv.new.self) (g.L.Line.calls c.recv.new.self)) (g.G.Gate.state c.done.new.self) (g.L.Line.left c.recv.new.self) (take c.in-Ok-Bytes.count c.recv.new.buf) c.args.turns c.feed_session.result c.done.ensures.same (rw c.in-Ok-Bytes.field-0-is at c.in-Ok-Bytes.ensures.given) c.recv.ensures.counted more few on c.feed_session.ensures.run

pub returns-in-Ok-Quiet-clause-run : goal.returns-in-Ok-Quiet-clause-run
returns-in-Ok-Quiet-clause-run g c =
    let more : 0 < c.args.turns = omega (arith, c.if-turns-eq0.false) in
    let on : GoesOn (g.G.Gate.state c.done.new.self) = goes_on_by (g.G.Gate.state c.args.gate.now) (g.G.Gate.state c.done.new.self) c.done.result c.done.ensures.same c.done.ensures.answer c.if-done.false in
    quiet_turn c.args.session (observed (g.G.Gate.state c.args.gate.now) (g.L.Line.given c.args.line.now) (g.L.Line.calls c.args.line.now)) (observed (g.G.Gate.state c.done.new.self) (g.L.Line.given c.recv.new.self) (g.L.Line.calls c.recv.new.self)) (g.L.Line.left c.recv.new.self) c.args.turns c.done.ensures.same (rw c.in-Ok-Quiet.field-0-is at c.in-Ok-Quiet.ensures.given) c.recv.ensures.counted more on

pub returns-in-Ok-End-clause-run : goal.returns-in-Ok-End-clause-run
returns-in-Ok-End-clause-run g c =
    let more : 0 < c.args.turns = omega (arith, c.if-turns-eq0.false) in
    let on : GoesOn (g.G.Gate.state c.done.new.self) = goes_on_by (g.G.Gate.state c.args.gate.now) (g.G.Gate.state c.done.new.self) c.done.result c.done.ensures.same c.done.ensures.answer c.if-done.false in
    finished_by_line c.args.session (observed (g.G.Gate.state c.args.gate.now) (g.L.Line.given c.args.line.now) (g.L.Line.calls c.args.line.now)) (observed (g.G.Gate.state c.done.new.self) (g.L.Line.given c.recv.new.self) (g.L.Line.calls c.recv.new.self)) (g.L.Line.left c.recv.new.self) c.args.turns c.done.ensures.same (rw c.in-Ok-End.field-0-is at c.in-Ok-End.ensures.given) c.recv.ensures.counted more (rw c.in-Ok-End.field-0-is at c.in-Ok-End.ensures.left).1 on

pub returns-in-Err-clause-run : goal.returns-in-Err-clause-run
returns-in-Err-clause-run g c =
    let more : 0 < c.args.turns = omega (arith, c.if-turns-eq0.false) in
    let on : GoesOn (g.G.Gate.state c.done.new.self) = goes_on_by (g.G.Gate.state c.args.gate.now) (g.G.Gate.state c.done.new.self) c.done.result c.done.ensures.same c.done.ensures.answer c.if-done.false in
    failed_by_line c.args.session (observed (g.G.Gate.state c.args.gate.now) (g.L.Line.given c.args.line.now) (g.L.Line.calls c.args.line.now)) (observed (g.G.Gate.state c.done.new.self) (g.L.Line.given c.recv.new.self) (g.L.Line.calls c.recv.new.self)) (g.L.Line.left c.recv.new.self) c.args.turns c.done.ensures.same c.in-Err.ensures.given c.recv.ensures.counted more on

pub feed_session-requires : goal.feed_session-requires
feed_session-requires g c = goes_on_by (g.G.Gate.state c.args.gate.now) (g.G.Gate.state c.done.new.self) c.done.result c.done.ensures.same c.done.ensures.answer c.if-done.false
