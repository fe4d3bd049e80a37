use Rattle.std.proofs.Common.{◌-◌, Bool, Ok, refl, subst, arith}
use Rattle.std.proofs.lemmas.Result.{err_from_is_err_and}
use Rattle.subscriber.specs.Turning.{Turns}
use Rattle.subscriber.proofs.AllReads.{following-begins, following-more, follows-ended, follows-stopped, follows-told}
use Rattle.subscriber.proofs.following.Subscriber.follow.Goals as goal

pub reads-init : goal.reads-init
reads-init g c = record {
  so_far = following-begins c.args.turns c.args.self.now.client c.args.self.now.messages (g.L.Line.reads c.args.line.now) (g.C.Clock.moments c.args.clock.now) (g.K.Sink.taken c.args.out.now) (g.W.Sink.taken c.args.wire.now);
  some = c.requires.some;
  few = c.requires.few;
  line_later = omega arith;
  wire_later = omega arith;
  out_later = omega arith;
}

-- a fault
pub returns-in_err-turn-clause-said : goal.returns-in_err-turn-clause-said
returns-in_err-turn-clause-said g c =
    let p = err_from_is_err_and c.from_residual.result c.from_residual.ensures.1 in
    rw (p.1, p.2) (follows-stopped c.args.turns c.args.self.now.client c.args.self.now.messages c.reads.left c.reads.self.client c.reads.self.messages (g.L.Line.reads c.args.line.now) (g.L.Line.reads c.reads.line) (g.C.Clock.moments c.args.clock.now) (g.C.Clock.moments c.reads.clock)
    (g.K.Sink.taken c.args.out.now) (g.K.Sink.taken c.reads.out) (g.W.Sink.taken c.args.wire.now) (g.W.Sink.taken c.reads.wire) c.reads.invariant.so_far
    c.reads-test.true c.turn.new.self.client c.turn.new.self.messages (g.L.Line.reads c.turn.new.line) (g.C.Clock.moments c.turn.new.clock) (g.K.Sink.taken c.turn.new.out) (g.W.Sink.taken c.turn.new.wire) _ c.in_err-turn.field-0.0 c.in_err-turn.ensures.said)

-- an ending was said
pub returns-then-branch-clause-said : goal.returns-then-branch-clause-said
returns-then-branch-clause-said g c =
    follows-ended c.args.turns c.args.self.now.client c.args.self.now.messages c.reads.left c.reads.self.client c.reads.self.messages (g.L.Line.reads c.args.line.now) (g.L.Line.reads c.reads.line) (g.C.Clock.moments c.args.clock.now) (g.C.Clock.moments c.reads.clock)
    (g.K.Sink.taken c.args.out.now) (g.K.Sink.taken c.reads.out) (g.W.Sink.taken c.args.wire.now) (g.W.Sink.taken c.reads.wire) c.reads.invariant.so_far
    c.reads-test.true c.turn.new.self.client c.turn.new.self.messages (g.L.Line.reads c.turn.new.line) (g.C.Clock.moments c.turn.new.clock) (g.K.Sink.taken c.turn.new.out) (g.W.Sink.taken c.turn.new.wire) _
    (subst (λ (told : Bool). Turns c.reads.self.client c.reads.self.messages c.turn.new.self.client c.turn.new.self.messages (g.L.Line.reads c.reads.line) (g.L.Line.reads c.turn.new.line) (g.C.Clock.moments c.reads.clock) (g.C.Clock.moments c.turn.new.clock)
    (g.K.Sink.taken c.reads.out) (g.K.Sink.taken c.turn.new.out) (g.W.Sink.taken c.reads.wire) (g.W.Sink.taken c.turn.new.wire) (Ok told)) c.if-branch.true c.in_ok-turn.ensures.said)

pub reads-preserved : goal.reads-preserved
reads-preserved g c = record {
  so_far = following-more c.args.turns c.args.self.now.client c.args.self.now.messages c.reads.left c.reads.self.client c.reads.self.messages (g.L.Line.reads c.args.line.now) (g.L.Line.reads c.reads.line) (g.C.Clock.moments c.args.clock.now) (g.C.Clock.moments c.reads.clock)
      (g.K.Sink.taken c.args.out.now) (g.K.Sink.taken c.reads.out) (g.W.Sink.taken c.args.wire.now) (g.W.Sink.taken c.reads.wire) c.reads.invariant.so_far
      c.reads-test.true c.turn.new.self.client c.turn.new.self.messages (g.L.Line.reads c.turn.new.line) (g.C.Clock.moments c.turn.new.clock) (g.K.Sink.taken c.turn.new.out) (g.W.Sink.taken c.turn.new.wire) (c.reads.left - 1) (omega (arith, c.reads-test.true))
      (subst (λ (told : Bool). Turns c.reads.self.client c.reads.self.messages c.turn.new.self.client c.turn.new.self.messages (g.L.Line.reads c.reads.line) (g.L.Line.reads c.turn.new.line) (g.C.Clock.moments c.reads.clock) (g.C.Clock.moments c.turn.new.clock)
      (g.K.Sink.taken c.reads.out) (g.K.Sink.taken c.turn.new.out) (g.W.Sink.taken c.reads.wire) (g.W.Sink.taken c.turn.new.wire) (Ok told)) c.if-branch.false c.in_ok-turn.ensures.said);
  some = omega (arith, c.reads.invariant.some, c.turn.auto.buffer);
  few = omega (arith, c.reads.invariant.few, c.turn.auto.buffer);
  line_later = omega (arith, c.reads.invariant.line_later, c.turn.ensures.line_later);
  wire_later = omega (arith, c.reads.invariant.wire_later, c.turn.ensures.wire_later);
  out_later = omega (arith, c.reads.invariant.out_later, c.turn.ensures.out_later);
}

-- no turn is left
pub returns-clause-said : goal.returns-clause-said
returns-clause-said g c =
    follows-told c.args.turns c.args.self.now.client c.args.self.now.messages c.reads.left c.reads.self.client c.reads.self.messages (g.L.Line.reads c.args.line.now) (g.L.Line.reads c.reads.line) (g.C.Clock.moments c.args.clock.now) (g.C.Clock.moments c.reads.clock)
    (g.K.Sink.taken c.args.out.now) (g.K.Sink.taken c.reads.out) (g.W.Sink.taken c.args.wire.now) (g.W.Sink.taken c.reads.wire) c.reads.invariant.so_far
    (omega (arith, c.reads-test.false)) _ refl (g.K.Sink.taken c.put.new.sink) c.put.result c.put.ensures.whole c.put.ensures.front c.put.ensures.fault
