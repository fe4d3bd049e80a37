use Rattle.std.proofs.Common.{◌<◌, ◌-◌, true, take, refl, arith}
use Rattle.std.specs.Prelude.{Ok, Err}
use Rattle.push_base.specs.Causes.{Rose}
use Rattle.hubloops.specs.declared.loop_end.LoopEnd.TheVariants as ends
use Rattle.hubloops.specs.Gates.{GoesOn}
use Rattle.hubloops.specs.LinkReader.{seen}
use Rattle.hubloops.proofs.Leading.{goes_on_by}
use Rattle.hubloops.proofs.Receipts.{done_at_once, turns_at_once, ended_by_link, failed_by_link, quiet_turn, turns_at_datagram, heard_on, starved_at_hearing, from_begin}
use Rattle.hubloops.proofs.link_reader.hear_on.Goals as goal

pub returns-then-done-clause-run : goal.returns-then-done-clause-run
returns-then-done-clause-run g c =
    from_begin c.args.link (Rose (g.D.Datagrams.faults c.args.datagrams.now) (g.D.Datagrams.faults c.args.datagrams.now)) (seen (g.G.Gate.state c.args.gate.now) (g.D.Datagrams.given c.args.datagrams.now) (g.D.Datagrams.sent c.args.datagrams.now) (g.D.Datagrams.calls c.args.datagrams.now)) (seen (g.G.Gate.state c.done.new.self) (g.D.Datagrams.given c.args.datagrams.now) (g.D.Datagrams.sent c.args.datagrams.now) (g.D.Datagrams.calls c.args.datagrams.now)) (g.D.Datagrams.left c.args.datagrams.now) c.args.turns (Err ends.Finished)
    (done_at_once c.args.link (Rose (g.D.Datagrams.faults c.args.datagrams.now) (g.D.Datagrams.faults c.args.datagrams.now)) (seen (g.G.Gate.state c.args.gate.now) (g.D.Datagrams.given c.args.datagrams.now) (g.D.Datagrams.sent c.args.datagrams.now) (g.D.Datagrams.calls c.args.datagrams.now)) (seen (g.G.Gate.state c.done.new.self) (g.D.Datagrams.given c.args.datagrams.now) (g.D.Datagrams.sent c.args.datagrams.now) (g.D.Datagrams.calls c.args.datagrams.now)) (g.D.Datagrams.left c.args.datagrams.now) c.args.turns c.done.result c.done.ensures.same refl refl refl c.done.ensures.answer c.if-done.true)

pub returns-then-turns-eq0-clause-run : goal.returns-then-turns-eq0-clause-run
returns-then-turns-eq0-clause-run g c =
    let on : GoesOn (g.G.Gate.state c.done.new.self) = goes_on_by (g.G.Gate.state c.args.gate.now) (g.G.Gate.state c.done.new.self) c.done.result c.done.ensures.same c.done.ensures.answer c.if-done.false in
    from_begin c.args.link (Rose (g.D.Datagrams.faults c.args.datagrams.now) (g.D.Datagrams.faults c.args.datagrams.now)) (seen (g.G.Gate.state c.args.gate.now) (g.D.Datagrams.given c.args.datagrams.now) (g.D.Datagrams.sent c.args.datagrams.now) (g.D.Datagrams.calls c.args.datagrams.now)) (seen (g.G.Gate.state c.done.new.self) (g.D.Datagrams.given c.args.datagrams.now) (g.D.Datagrams.sent c.args.datagrams.now) (g.D.Datagrams.calls c.args.datagrams.now)) (g.D.Datagrams.left c.args.datagrams.now) c.args.turns (Err ends.Turns)
    (turns_at_once c.args.link (Rose (g.D.Datagrams.faults c.args.datagrams.now) (g.D.Datagrams.faults c.args.datagrams.now)) (seen (g.G.Gate.state c.args.gate.now) (g.D.Datagrams.given c.args.datagrams.now) (g.D.Datagrams.sent c.args.datagrams.now) (g.D.Datagrams.calls c.args.datagrams.now)) (seen (g.G.Gate.state c.done.new.self) (g.D.Datagrams.given c.args.datagrams.now) (g.D.Datagrams.sent c.args.datagrams.now) (g.D.Datagrams.calls c.args.datagrams.now)) (g.D.Datagrams.left c.args.datagrams.now) c.args.turns c.done.ensures.same refl refl refl c.if-turns-eq0.true on)

pub returns-in-Ok-Quiet-clause-run : goal.returns-in-Ok-Quiet-clause-run
returns-in-Ok-Quiet-clause-run g c =
    let more : 0 < c.args.turns = omega (arith, c.if-turns-eq0.false) in
    let on : GoesOn (g.G.Gate.state c.done.new.self) = goes_on_by (g.G.Gate.state c.args.gate.now) (g.G.Gate.state c.done.new.self) c.done.result c.done.ensures.same c.done.ensures.answer c.if-done.false in
    from_begin c.args.link (Rose (g.D.Datagrams.faults c.args.datagrams.now) (g.D.Datagrams.faults c.recv.new.self)) (seen (g.G.Gate.state c.args.gate.now) (g.D.Datagrams.given c.args.datagrams.now) (g.D.Datagrams.sent c.args.datagrams.now) (g.D.Datagrams.calls c.args.datagrams.now)) (seen (g.G.Gate.state c.done.new.self) (g.D.Datagrams.given c.recv.new.self) (g.D.Datagrams.sent c.recv.new.self) (g.D.Datagrams.calls c.recv.new.self)) (g.D.Datagrams.left c.recv.new.self) c.args.turns (Ok (true, c.args.turns - 1))
    (quiet_turn c.args.link (Rose (g.D.Datagrams.faults c.args.datagrams.now) (g.D.Datagrams.faults c.recv.new.self)) (seen (g.G.Gate.state c.args.gate.now) (g.D.Datagrams.given c.args.datagrams.now) (g.D.Datagrams.sent c.args.datagrams.now) (g.D.Datagrams.calls c.args.datagrams.now)) (seen (g.G.Gate.state c.done.new.self) (g.D.Datagrams.given c.recv.new.self) (g.D.Datagrams.sent c.recv.new.self) (g.D.Datagrams.calls c.recv.new.self)) (g.D.Datagrams.left c.recv.new.self) c.args.turns c.done.ensures.same (rw c.in-Ok-Quiet.field-0-is at c.in-Ok-Quiet.ensures.given) c.recv.ensures.sent c.recv.ensures.counted more on)

pub returns-in-Ok-End-clause-run : goal.returns-in-Ok-End-clause-run
returns-in-Ok-End-clause-run g c =
    let more : 0 < c.args.turns = omega (arith, c.if-turns-eq0.false) in
    let on : GoesOn (g.G.Gate.state c.done.new.self) = goes_on_by (g.G.Gate.state c.args.gate.now) (g.G.Gate.state c.done.new.self) c.done.result c.done.ensures.same c.done.ensures.answer c.if-done.false in
    from_begin c.args.link (Rose (g.D.Datagrams.faults c.args.datagrams.now) (g.D.Datagrams.faults c.recv.new.self)) (seen (g.G.Gate.state c.args.gate.now) (g.D.Datagrams.given c.args.datagrams.now) (g.D.Datagrams.sent c.args.datagrams.now) (g.D.Datagrams.calls c.args.datagrams.now)) (seen (g.G.Gate.state c.done.new.self) (g.D.Datagrams.given c.recv.new.self) (g.D.Datagrams.sent c.recv.new.self) (g.D.Datagrams.calls c.recv.new.self)) (g.D.Datagrams.left c.recv.new.self) c.args.turns (Err ends.Finished)
    (ended_by_link c.args.link (Rose (g.D.Datagrams.faults c.args.datagrams.now) (g.D.Datagrams.faults c.recv.new.self)) (seen (g.G.Gate.state c.args.gate.now) (g.D.Datagrams.given c.args.datagrams.now) (g.D.Datagrams.sent c.args.datagrams.now) (g.D.Datagrams.calls c.args.datagrams.now)) (seen (g.G.Gate.state c.done.new.self) (g.D.Datagrams.given c.recv.new.self) (g.D.Datagrams.sent c.recv.new.self) (g.D.Datagrams.calls c.recv.new.self)) (g.D.Datagrams.left c.recv.new.self) c.args.turns c.done.ensures.same (rw c.in-Ok-End.field-0-is at c.in-Ok-End.ensures.given) c.recv.ensures.sent c.recv.ensures.counted more (rw c.in-Ok-End.field-0-is at c.in-Ok-End.ensures.left).1 on)

pub returns-in-Err-clause-run : goal.returns-in-Err-clause-run
returns-in-Err-clause-run g c =
    let more : 0 < c.args.turns = omega (arith, c.if-turns-eq0.false) in
    let on : GoesOn (g.G.Gate.state c.done.new.self) = goes_on_by (g.G.Gate.state c.args.gate.now) (g.G.Gate.state c.done.new.self) c.done.result c.done.ensures.same c.done.ensures.answer c.if-done.false in
    from_begin c.args.link (Rose (g.D.Datagrams.faults c.args.datagrams.now) (g.D.Datagrams.faults c.recv.new.self)) (seen (g.G.Gate.state c.args.gate.now) (g.D.Datagrams.given c.args.datagrams.now) (g.D.Datagrams.sent c.args.datagrams.now) (g.D.Datagrams.calls c.args.datagrams.now)) (seen (g.G.Gate.state c.tell_gone.new.gate) (g.D.Datagrams.given c.recv.new.self) (g.D.Datagrams.sent c.recv.new.self) (g.D.Datagrams.calls c.recv.new.self)) (g.D.Datagrams.left c.recv.new.self) c.args.turns (Err c.tell_gone.result)
    (failed_by_link c.args.link (Rose (g.D.Datagrams.faults c.args.datagrams.now) (g.D.Datagrams.faults c.recv.new.self)) (seen (g.G.Gate.state c.args.gate.now) (g.D.Datagrams.given c.args.datagrams.now) (g.D.Datagrams.sent c.args.datagrams.now) (g.D.Datagrams.calls c.args.datagrams.now)) (seen (g.G.Gate.state c.tell_gone.new.gate) (g.D.Datagrams.given c.recv.new.self) (g.D.Datagrams.sent c.recv.new.self) (g.D.Datagrams.calls c.recv.new.self)) (g.G.Gate.state c.done.new.self) (g.D.Datagrams.left c.recv.new.self) c.args.turns c.tell_gone.result c.done.ensures.same c.in-Err.ensures.given c.recv.ensures.sent c.recv.ensures.counted more on c.in-Err.ensures.cause.failed c.tell_gone.ensures)

pub returns-then-turns-eq1-clause-run : goal.returns-then-turns-eq1-clause-run
returns-then-turns-eq1-clause-run g c =
    let on : GoesOn (g.G.Gate.state c.done.new.self) = goes_on_by (g.G.Gate.state c.args.gate.now) (g.G.Gate.state c.done.new.self) c.done.result c.done.ensures.same c.done.ensures.answer c.if-done.false in
    from_begin c.args.link (Rose (g.D.Datagrams.faults c.args.datagrams.now) (g.D.Datagrams.faults c.recv.new.self)) (seen (g.G.Gate.state c.args.gate.now) (g.D.Datagrams.given c.args.datagrams.now) (g.D.Datagrams.sent c.args.datagrams.now) (g.D.Datagrams.calls c.args.datagrams.now)) (seen (g.G.Gate.state c.done.new.self) (g.D.Datagrams.given c.recv.new.self) (g.D.Datagrams.sent c.recv.new.self) (g.D.Datagrams.calls c.recv.new.self)) (g.D.Datagrams.left c.recv.new.self) c.args.turns (Err ends.Turns)
    (turns_at_datagram c.args.link (Rose (g.D.Datagrams.faults c.args.datagrams.now) (g.D.Datagrams.faults c.recv.new.self)) (seen (g.G.Gate.state c.args.gate.now) (g.D.Datagrams.given c.args.datagrams.now) (g.D.Datagrams.sent c.args.datagrams.now) (g.D.Datagrams.calls c.args.datagrams.now)) (seen (g.G.Gate.state c.done.new.self) (g.D.Datagrams.given c.recv.new.self) (g.D.Datagrams.sent c.recv.new.self) (g.D.Datagrams.calls c.recv.new.self)) (g.D.Datagrams.left c.recv.new.self) (take c.in-Ok-Bytes.count c.recv.new.buf) c.args.turns c.done.ensures.same (rw c.in-Ok-Bytes.field-0-is at c.in-Ok-Bytes.ensures.given) c.recv.ensures.sent c.recv.ensures.counted c.if-turns-eq1.true on)

pub returns-in-Ok-clause-run : goal.returns-in-Ok-clause-run
returns-in-Ok-clause-run g c =
    let some : 1 < c.args.turns = omega (arith, c.if-turns-eq0.false, c.if-turns-eq1.false) in
    let on : GoesOn (g.G.Gate.state c.done.new.self) = goes_on_by (g.G.Gate.state c.args.gate.now) (g.G.Gate.state c.done.new.self) c.done.result c.done.ensures.same c.done.ensures.answer c.if-done.false in
    from_begin c.args.link (Rose (g.D.Datagrams.faults c.args.datagrams.now) (g.D.Datagrams.faults c.recv.new.self)) (seen (g.G.Gate.state c.args.gate.now) (g.D.Datagrams.given c.args.datagrams.now) (g.D.Datagrams.sent c.args.datagrams.now) (g.D.Datagrams.calls c.args.datagrams.now)) (seen (g.G.Gate.state c.hear.new.self) (g.D.Datagrams.given c.recv.new.self) (g.D.Datagrams.sent c.recv.new.self) (g.D.Datagrams.calls c.recv.new.self)) (g.D.Datagrams.left c.recv.new.self) c.args.turns (Ok (true, c.args.turns - 2))
    (heard_on c.args.link (Rose (g.D.Datagrams.faults c.args.datagrams.now) (g.D.Datagrams.faults c.recv.new.self)) (seen (g.G.Gate.state c.args.gate.now) (g.D.Datagrams.given c.args.datagrams.now) (g.D.Datagrams.sent c.args.datagrams.now) (g.D.Datagrams.calls c.args.datagrams.now)) (seen (g.G.Gate.state c.hear.new.self) (g.D.Datagrams.given c.recv.new.self) (g.D.Datagrams.sent c.recv.new.self) (g.D.Datagrams.calls c.recv.new.self)) (g.G.Gate.state c.done.new.self) (g.D.Datagrams.left c.recv.new.self) (take c.in-Ok-Bytes.count c.recv.new.buf) c.in-Ok.field-0 c.args.turns c.done.ensures.same (rw c.in-Ok-Bytes.field-0-is at c.in-Ok-Bytes.ensures.given) c.recv.ensures.sent c.recv.ensures.counted some c.in-Ok.ensures.call on)

pub returns-in-Err-NoMemory-clause-run : goal.returns-in-Err-NoMemory-clause-run
returns-in-Err-NoMemory-clause-run g c =
    let some : 1 < c.args.turns = omega (arith, c.if-turns-eq0.false, c.if-turns-eq1.false) in
    let on : GoesOn (g.G.Gate.state c.done.new.self) = goes_on_by (g.G.Gate.state c.args.gate.now) (g.G.Gate.state c.done.new.self) c.done.result c.done.ensures.same c.done.ensures.answer c.if-done.false in
    from_begin c.args.link (Rose (g.D.Datagrams.faults c.args.datagrams.now) (g.D.Datagrams.faults c.recv.new.self)) (seen (g.G.Gate.state c.args.gate.now) (g.D.Datagrams.given c.args.datagrams.now) (g.D.Datagrams.sent c.args.datagrams.now) (g.D.Datagrams.calls c.args.datagrams.now)) (seen (g.G.Gate.state c.hear.new.self) (g.D.Datagrams.given c.recv.new.self) (g.D.Datagrams.sent c.recv.new.self) (g.D.Datagrams.calls c.recv.new.self)) (g.D.Datagrams.left c.recv.new.self) c.args.turns (Err ends.NoMemory)
    (starved_at_hearing c.args.link (Rose (g.D.Datagrams.faults c.args.datagrams.now) (g.D.Datagrams.faults c.recv.new.self)) (seen (g.G.Gate.state c.args.gate.now) (g.D.Datagrams.given c.args.datagrams.now) (g.D.Datagrams.sent c.args.datagrams.now) (g.D.Datagrams.calls c.args.datagrams.now)) (seen (g.G.Gate.state c.hear.new.self) (g.D.Datagrams.given c.recv.new.self) (g.D.Datagrams.sent c.recv.new.self) (g.D.Datagrams.calls c.recv.new.self)) (g.G.Gate.state c.done.new.self) (g.D.Datagrams.left c.recv.new.self) (take c.in-Ok-Bytes.count c.recv.new.buf) c.args.turns c.in-Err-NoMemory.field-0 c.done.ensures.same (rw c.in-Ok-Bytes.field-0-is at c.in-Ok-Bytes.ensures.given) c.recv.ensures.sent c.recv.ensures.counted some c.in-Err-NoMemory.ensures.call on)
