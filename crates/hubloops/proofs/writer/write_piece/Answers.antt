use Rattle.std.proofs.Common.{◌<◌, arith}
use Rattle.hubloops.proofs.Writes.{written_more, written_fault, written_none}
use Rattle.hubloops.proofs.writer.write_piece.Goals as goal

pub returns-in-Ok-eq0-clause-run : goal.returns-in-Ok-eq0-clause-run
returns-in-Ok-eq0-clause-run g c =
    let more : 0 < c.pieces.left = omega (arith, c.if-left-eq0.false) in
    written_none c.args.piece.now (g.K.Sink.taken c.args.sink.now) (g.K.Sink.taken c.pieces.sink) (g.K.Sink.taken c.write.new.self) (g.K.Sink.calls c.args.sink.now) (g.K.Sink.calls c.pieces.sink) (g.K.Sink.calls c.write.new.self) c.pieces.rest.now c.pieces.left c.args.turns c.in-Ok-eq0.field-0 c.pieces.invariant.run more c.in-Ok-eq0.ensures.taken (omega (arith, c.in-Ok-eq0.field-0-test)) c.write.ensures.counted

pub pieces-preserved : goal.pieces-preserved
pieces-preserved g c =
    let more : 0 < c.pieces.left = omega (arith, c.if-left-eq0.false) in
    record {
      run = written_more c.args.piece.now (g.K.Sink.taken c.args.sink.now) (g.K.Sink.taken c.pieces.sink) (g.K.Sink.taken c.write.new.self) (g.K.Sink.calls c.args.sink.now) (g.K.Sink.calls c.pieces.sink) (g.K.Sink.calls c.write.new.self) c.pieces.rest.now c.split_at.result.1.now c.pieces.left c.args.turns c.in-Ok.count c.pieces.invariant.run more c.in-Ok.ensures.taken c.write.ensures.counted c.split_at.ensures.back;
      later = omega (arith, c.pieces.invariant.later, c.write.ensures.cause.later);
    }

pub returns-in-Err-clause-run : goal.returns-in-Err-clause-run
returns-in-Err-clause-run g c =
    let more : 0 < c.pieces.left = omega (arith, c.if-left-eq0.false) in
    written_fault c.args.piece.now (g.K.Sink.taken c.args.sink.now) (g.K.Sink.taken c.pieces.sink) (g.K.Sink.taken c.write.new.self) (g.K.Sink.calls c.args.sink.now) (g.K.Sink.calls c.pieces.sink) (g.K.Sink.calls c.write.new.self) c.pieces.rest.now c.pieces.left c.args.turns c.pieces.invariant.run more c.in-Err.ensures.taken c.write.ensures.counted
