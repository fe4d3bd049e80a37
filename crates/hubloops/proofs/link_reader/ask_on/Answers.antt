use Rattle.std.proofs.Common.{◌<◌, refl, arith}
use Rattle.push_base.specs.Causes.{Rose}
use Rattle.hubloops.specs.LinkReader.{seen}
use Rattle.hubloops.proofs.Receipts.{turns_before_ask, asked_none, starved_at_ask, turns_before_send, sent_on, failed_by_send}
use Rattle.hubloops.proofs.link_reader.ask_on.Goals as goal

pub returns-then-turns-eq0-clause-run : goal.returns-then-turns-eq0-clause-run
returns-then-turns-eq0-clause-run g c =
    turns_before_ask c.args.link (Rose (g.D.Datagrams.faults c.args.datagrams.now) (g.D.Datagrams.faults c.args.datagrams.now)) (seen (g.G.Gate.state c.args.gate.now) (g.D.Datagrams.given c.args.datagrams.now) (g.D.Datagrams.sent c.args.datagrams.now) (g.D.Datagrams.calls c.args.datagrams.now)) (g.D.Datagrams.left c.args.datagrams.now) c.args.turns c.if-turns-eq0.true

pub returns-in-Ok-None-clause-run : goal.returns-in-Ok-None-clause-run
returns-in-Ok-None-clause-run g c =
    let more : 0 < c.args.turns = omega (arith, c.if-turns-eq0.false) in
    asked_none c.args.link (Rose (g.D.Datagrams.faults c.args.datagrams.now) (g.D.Datagrams.faults c.args.datagrams.now)) (seen (g.G.Gate.state c.args.gate.now) (g.D.Datagrams.given c.args.datagrams.now) (g.D.Datagrams.sent c.args.datagrams.now) (g.D.Datagrams.calls c.args.datagrams.now)) (seen (g.G.Gate.state c.ask.new.self) (g.D.Datagrams.given c.args.datagrams.now) (g.D.Datagrams.sent c.args.datagrams.now) (g.D.Datagrams.calls c.args.datagrams.now)) (g.D.Datagrams.left c.args.datagrams.now) c.args.buf.now c.ask.new.buf c.args.turns c.requires (rw c.in-Ok-None.field-0-is at c.in-Ok-None.ensures.call) refl refl refl more

pub returns-in-Err-NoMemory-clause-run : goal.returns-in-Err-NoMemory-clause-run
returns-in-Err-NoMemory-clause-run g c =
    let more : 0 < c.args.turns = omega (arith, c.if-turns-eq0.false) in
    starved_at_ask c.args.link (Rose (g.D.Datagrams.faults c.args.datagrams.now) (g.D.Datagrams.faults c.args.datagrams.now)) (seen (g.G.Gate.state c.args.gate.now) (g.D.Datagrams.given c.args.datagrams.now) (g.D.Datagrams.sent c.args.datagrams.now) (g.D.Datagrams.calls c.args.datagrams.now)) (seen (g.G.Gate.state c.ask.new.self) (g.D.Datagrams.given c.args.datagrams.now) (g.D.Datagrams.sent c.args.datagrams.now) (g.D.Datagrams.calls c.args.datagrams.now)) (g.D.Datagrams.left c.args.datagrams.now) c.args.buf.now c.ask.new.buf c.args.turns c.in-Err-NoMemory.field-0 c.requires (rw c.in-Err-NoMemory.is at c.ask.ensures.call) refl refl refl more

pub returns-then-turns-eq1-clause-run : goal.returns-then-turns-eq1-clause-run
returns-then-turns-eq1-clause-run g c =
    turns_before_send c.args.link (Rose (g.D.Datagrams.faults c.args.datagrams.now) (g.D.Datagrams.faults c.args.datagrams.now)) (seen (g.G.Gate.state c.args.gate.now) (g.D.Datagrams.given c.args.datagrams.now) (g.D.Datagrams.sent c.args.datagrams.now) (g.D.Datagrams.calls c.args.datagrams.now)) (seen (g.G.Gate.state c.ask.new.self) (g.D.Datagrams.given c.args.datagrams.now) (g.D.Datagrams.sent c.args.datagrams.now) (g.D.Datagrams.calls c.args.datagrams.now)) (g.D.Datagrams.left c.args.datagrams.now) c.args.buf.now c.ask.new.buf c.in-Ok-Some.count c.args.turns c.requires (rw c.in-Ok-Some.field-0-is at c.in-Ok-Some.ensures.call) refl refl refl c.if-turns-eq1.true

pub returns-in-Ok-clause-run : goal.returns-in-Ok-clause-run
returns-in-Ok-clause-run g c =
    let some : 1 < c.args.turns = omega (arith, c.if-turns-eq0.false, c.if-turns-eq1.false) in
    sent_on c.args.link (Rose (g.D.Datagrams.faults c.args.datagrams.now) (g.D.Datagrams.faults c.send.new.self)) (seen (g.G.Gate.state c.args.gate.now) (g.D.Datagrams.given c.args.datagrams.now) (g.D.Datagrams.sent c.args.datagrams.now) (g.D.Datagrams.calls c.args.datagrams.now)) (seen (g.G.Gate.state c.ask.new.self) (g.D.Datagrams.given c.send.new.self) (g.D.Datagrams.sent c.send.new.self) (g.D.Datagrams.calls c.send.new.self)) (g.D.Datagrams.left c.send.new.self) c.args.buf.now c.ask.new.buf c.in-Ok-Some.count c.args.turns c.requires (rw c.in-Ok-Some.field-0-is at c.in-Ok-Some.ensures.call) c.send.ensures.given c.in-Ok.ensures.sent c.send.ensures.counted some

pub returns-in-Err-clause-run : goal.returns-in-Err-clause-run
returns-in-Err-clause-run g c =
    let some : 1 < c.args.turns = omega (arith, c.if-turns-eq0.false, c.if-turns-eq1.false) in
    failed_by_send c.args.link (Rose (g.D.Datagrams.faults c.args.datagrams.now) (g.D.Datagrams.faults c.send.new.self)) (seen (g.G.Gate.state c.args.gate.now) (g.D.Datagrams.given c.args.datagrams.now) (g.D.Datagrams.sent c.args.datagrams.now) (g.D.Datagrams.calls c.args.datagrams.now)) (seen (g.G.Gate.state c.tell_gone.new.gate) (g.D.Datagrams.given c.send.new.self) (g.D.Datagrams.sent c.send.new.self) (g.D.Datagrams.calls c.send.new.self)) (g.G.Gate.state c.ask.new.self) (g.D.Datagrams.left c.send.new.self) c.args.buf.now c.ask.new.buf c.in-Ok-Some.count c.args.turns c.tell_gone.result c.requires (rw c.in-Ok-Some.field-0-is at c.in-Ok-Some.ensures.call) c.send.ensures.given c.in-Err.ensures.sent c.send.ensures.counted some c.in-Err.ensures.cause.failed c.tell_gone.ensures
