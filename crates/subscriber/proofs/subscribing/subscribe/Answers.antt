use Rattle.std.proofs.Common.{Err, ap, refl, subst}
use Rattle.push_base.specs.Causes.{Rose}
use Rattle.configurations.specs.Kept.{subscribing_kept}
use Rattle.subscriber.specs.declared.fault.Fault.{Fault}
use Rattle.subscriber.specs.Subscribed.{Conversed}
use Rattle.subscriber.proofs.Conversing.{subscribed-unread, subscribed-starved}
use Rattle.subscriber.proofs.subscribing.subscribe.Goals as goal

-- a read failed
pub returns-in-Err-Read-clause-said : goal.returns-in-Err-Read-clause-said
returns-in-Err-Read-clause-said g c =
    subscribed-unread (Rose (g.L.Line.faults c.args.line.now) (g.L.Line.faults c.converse.new.line)) (subscribing_kept c.args.configuration.now) (g.L.Line.reads c.args.line.now) (g.L.Line.reads c.converse.new.line)
    (g.C.Clock.moments c.args.clock.now) (g.C.Clock.moments c.converse.new.clock) (g.K.Sink.taken c.args.out.now) (g.K.Sink.taken c.converse.new.out) (g.W.Sink.taken c.args.wire.now) (g.W.Sink.taken c.converse.new.wire)
    c.tell.result _ (g.K.Sink.taken c.tell.new.sink) (c.in-Err-Read.ensures.read_fault (ap (λ (fault : Fault). Err fault) c.in-Err-Read.field-0-is)) refl
    (subst (λ (fault : Fault). Conversed (subscribing_kept c.args.configuration.now) (g.L.Line.reads c.args.line.now) (g.L.Line.reads c.converse.new.line) (g.C.Clock.moments c.args.clock.now) (g.C.Clock.moments c.converse.new.clock)
    (g.K.Sink.taken c.args.out.now) (g.K.Sink.taken c.converse.new.out) (g.W.Sink.taken c.args.wire.now) (g.W.Sink.taken c.converse.new.wire) (Err fault)) c.in-Err-Read.field-0-is c.in-Err-Read.ensures.said)
    c.tell.ensures.told

-- memory ran out
pub returns-in-Err-NoMemory-clause-said : goal.returns-in-Err-NoMemory-clause-said
returns-in-Err-NoMemory-clause-said g c =
    subscribed-starved (Rose (g.L.Line.faults c.args.line.now) (g.L.Line.faults c.converse.new.line)) (subscribing_kept c.args.configuration.now) (g.L.Line.reads c.args.line.now) (g.L.Line.reads c.converse.new.line)
    (g.C.Clock.moments c.args.clock.now) (g.C.Clock.moments c.converse.new.clock) (g.K.Sink.taken c.args.out.now) (g.K.Sink.taken c.converse.new.out) (g.W.Sink.taken c.args.wire.now) (g.W.Sink.taken c.converse.new.wire)
    c.tell-in-Err-NoMemory.result _ (g.K.Sink.taken c.tell-in-Err-NoMemory.new.sink) refl
    (subst (λ (fault : Fault). Conversed (subscribing_kept c.args.configuration.now) (g.L.Line.reads c.args.line.now) (g.L.Line.reads c.converse.new.line) (g.C.Clock.moments c.args.clock.now) (g.C.Clock.moments c.converse.new.clock)
    (g.K.Sink.taken c.args.out.now) (g.K.Sink.taken c.converse.new.out) (g.W.Sink.taken c.args.wire.now) (g.W.Sink.taken c.converse.new.wire) (Err fault)) c.in-Err-NoMemory.field-0-is c.in-Err-NoMemory.ensures.said)
    c.tell-in-Err-NoMemory.ensures.told
