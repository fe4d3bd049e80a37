use Rattle.std.proofs.Common.{◌∙◌, ap, subst, string_bytes}
use Rattle.std.specs.Io.KnownBytes.{append_known}
use Rattle.std.proofs.lemmas.Result.{err_from_is_err_and}
use Rattle.push_base.specs.Line.{read_of, reads_of}
use Rattle.push_base.specs.Told.{TellsMore}
use Rattle.push_base.specs.Written.{IsFrontOf, Took}
use Rattle.subscriber.proofs.OneTurn.{is_write, turns-unheard, turns-starved, turns-unsaid, turns-over, turns-starved-later, turns-unsent, turns-unsaid-later, turns-passed}
use Rattle.subscriber.proofs.following.Subscriber.turn.Goals as goal

-- the read failed
pub returns-in-Err-clause-said : goal.returns-in-Err-clause-said
returns-in-Err-clause-said g c =
    turns-unheard c.args.self.now.client c.args.self.now.client c.args.self.now.messages c.args.self.now.messages (g.L.Line.reads c.args.line.now) (g.L.Line.reads c.recv.new.self) (g.C.Clock.moments c.args.clock.now)
    (g.W.Sink.taken c.args.wire.now) (g.K.Sink.taken c.args.out.now)
    (subst (λ r. TellsMore (g.L.Line.reads c.args.line.now) (g.L.Line.reads c.recv.new.self) (reads_of r c.recv.new.buf)) c.in-Err.is c.recv.ensures.reads)

-- memory ran out while it was heard
pub returns-in_err-said-clause-said : goal.returns-in_err-said-clause-said
returns-in_err-said-clause-said g c =
    let p = err_from_is_err_and c.from_residual.result c.from_residual.ensures.1 in
    rw (p.1, p.2) (turns-starved c.args.self.now.client c.hear.new.client c.args.self.now.messages c.hear.new.messages (g.L.Line.reads c.args.line.now) (g.L.Line.reads c.recv.new.self) (g.C.Clock.moments c.args.clock.now)
    (g.W.Sink.taken c.args.wire.now) (g.K.Sink.taken c.args.out.now) (read_of c.in-Ok.got c.recv.new.buf)
    (subst (λ r. TellsMore (g.L.Line.reads c.args.line.now) (g.L.Line.reads c.recv.new.self) (reads_of r c.recv.new.buf)) c.in-Ok.is c.recv.ensures.reads))

-- the output failed
pub returns-in_err-put-clause-said : goal.returns-in_err-put-clause-said
returns-in_err-put-clause-said g c =
    let p = err_from_is_err_and c.from_residual-in_err-put.result c.from_residual-in_err-put.ensures.1 in
    rw (p.1, p.2, is_write c.in_err-put.field-0.0 c.in_err-put.ensures.fault) (turns-unsaid c.args.self.now.client c.hear.new.client c.args.self.now.messages c.hear.new.messages (g.L.Line.reads c.args.line.now) (g.L.Line.reads c.recv.new.self) (g.C.Clock.moments c.args.clock.now)
    (g.W.Sink.taken c.args.wire.now) (g.K.Sink.taken c.args.out.now) (g.K.Sink.taken c.put.new.sink) (read_of c.in-Ok.got c.recv.new.buf) (string_bytes c.in_ok-said.said.text) c.in_ok-said.said.is_over
    (subst (λ r. TellsMore (g.L.Line.reads c.args.line.now) (g.L.Line.reads c.recv.new.self) (reads_of r c.recv.new.buf)) c.in-Ok.is c.recv.ensures.reads) c.in_ok-said.ensures
    (subst (λ text. Took (g.K.Sink.taken c.args.out.now) (g.K.Sink.taken c.put.new.sink) (λ wrote. IsFrontOf wrote text)) c.as_bytes.ensures.value c.in_err-put.ensures.front))

-- an ending was said
pub returns-then-said-clause-said : goal.returns-then-said-clause-said
returns-then-said-clause-said g c =
    turns-over c.args.self.now.client c.hear.new.client c.args.self.now.messages c.hear.new.messages (g.L.Line.reads c.args.line.now) (g.L.Line.reads c.recv.new.self) (g.C.Clock.moments c.args.clock.now)
    (g.W.Sink.taken c.args.wire.now) (g.K.Sink.taken c.args.out.now) (g.K.Sink.taken c.put.new.sink) (read_of c.in-Ok.got c.recv.new.buf) (string_bytes c.in_ok-said.said.text)
    (subst (λ r. TellsMore (g.L.Line.reads c.args.line.now) (g.L.Line.reads c.recv.new.self) (reads_of r c.recv.new.buf)) c.in-Ok.is c.recv.ensures.reads)
    (c.in_ok-put.ensures.whole ∙ ap (append_known (g.K.Sink.taken c.args.out.now)) c.as_bytes.ensures.value) c.in_ok-said.said.is_over c.if-said.true c.in_ok-said.ensures

-- memory ran out at the moment
pub returns-in_err-passed-clause-said : goal.returns-in_err-passed-clause-said
returns-in_err-passed-clause-said g c =
    let p = err_from_is_err_and c.from_residual-in_err-passed.result c.from_residual-in_err-passed.ensures.1 in
    rw (p.1, p.2) (turns-starved-later c.args.self.now.client c.hear.new.client c.args.self.now.messages c.hear.new.messages (g.L.Line.reads c.args.line.now) (g.L.Line.reads c.recv.new.self) (g.C.Clock.moments c.args.clock.now)
    (g.W.Sink.taken c.args.wire.now) (g.K.Sink.taken c.args.out.now) (g.K.Sink.taken c.put.new.sink) (read_of c.in-Ok.got c.recv.new.buf) (string_bytes c.in_ok-said.said.text)
    (subst (λ r. TellsMore (g.L.Line.reads c.args.line.now) (g.L.Line.reads c.recv.new.self) (reads_of r c.recv.new.buf)) c.in-Ok.is c.recv.ensures.reads)
    (c.in_ok-put.ensures.whole ∙ ap (append_known (g.K.Sink.taken c.args.out.now)) c.as_bytes.ensures.value) c.in_ok-said.said.is_over c.if-said.false c.in_ok-said.ensures (g.C.Clock.moments c.now-millis.new.self) c.now-millis.result c.now-millis.ensures.moments c.pass.new.client)

-- the wire failed, and then the output
pub returns-in_err-put-2-clause-said : goal.returns-in_err-put-2-clause-said
returns-in_err-put-2-clause-said g c =
    let p = err_from_is_err_and c.from_residual-in_err-put-2.result c.from_residual-in_err-put-2.ensures.1 in
    rw (p.1, p.2, is_write c.in_err-put-2.field-0.0 c.in_err-put-2.ensures.fault) (turns-unsent c.args.self.now.client c.hear.new.client c.args.self.now.messages c.hear.new.messages (g.L.Line.reads c.args.line.now) (g.L.Line.reads c.recv.new.self) (g.C.Clock.moments c.args.clock.now)
    (g.W.Sink.taken c.args.wire.now) (g.K.Sink.taken c.args.out.now) (g.K.Sink.taken c.put.new.sink) (read_of c.in-Ok.got c.recv.new.buf) (string_bytes c.in_ok-said.said.text)
    (subst (λ r. TellsMore (g.L.Line.reads c.args.line.now) (g.L.Line.reads c.recv.new.self) (reads_of r c.recv.new.buf)) c.in-Ok.is c.recv.ensures.reads)
    (c.in_ok-put.ensures.whole ∙ ap (append_known (g.K.Sink.taken c.args.out.now)) c.as_bytes.ensures.value) c.in_ok-said.said.is_over c.if-said.false c.in_ok-said.ensures (g.C.Clock.moments c.now-millis.new.self) c.now-millis.result c.now-millis.ensures.moments c.pass.new.client (g.W.Sink.taken c.put-2.new.sink) c.in_ok-passed.passed.octets.items (string_bytes c.in_ok-passed.passed.said.text)
    c.in_ok-passed.passed.said.is_over (c.in_ok-passed.ensures c.hear.new.messages)
    (subst (λ text. Took (g.W.Sink.taken c.args.wire.now) (g.W.Sink.taken c.put-2.new.sink) (λ wrote. IsFrontOf wrote text)) c.deref.ensures.value c.in_err-put-2.ensures.front))

pub returns-in_err-put-3-clause-said : goal.returns-in_err-put-3-clause-said
returns-in_err-put-3-clause-said g c =
    let p = err_from_is_err_and c.from_residual-in_err-put-3.result c.from_residual-in_err-put-3.ensures.1 in
    rw (p.1, p.2, is_write c.in_err-put-3.field-0.0 c.in_err-put-3.ensures.fault) (turns-unsaid-later c.args.self.now.client c.hear.new.client c.args.self.now.messages c.hear.new.messages (g.L.Line.reads c.args.line.now) (g.L.Line.reads c.recv.new.self) (g.C.Clock.moments c.args.clock.now)
    (g.W.Sink.taken c.args.wire.now) (g.K.Sink.taken c.args.out.now) (g.K.Sink.taken c.put.new.sink) (read_of c.in-Ok.got c.recv.new.buf) (string_bytes c.in_ok-said.said.text)
    (subst (λ r. TellsMore (g.L.Line.reads c.args.line.now) (g.L.Line.reads c.recv.new.self) (reads_of r c.recv.new.buf)) c.in-Ok.is c.recv.ensures.reads)
    (c.in_ok-put.ensures.whole ∙ ap (append_known (g.K.Sink.taken c.args.out.now)) c.as_bytes.ensures.value) c.in_ok-said.said.is_over c.if-said.false c.in_ok-said.ensures (g.C.Clock.moments c.now-millis.new.self) c.now-millis.result c.now-millis.ensures.moments c.pass.new.client (g.W.Sink.taken c.put-2.new.sink) c.in_ok-passed.passed.octets.items (string_bytes c.in_ok-passed.passed.said.text)
    c.in_ok-passed.passed.said.is_over (c.in_ok-passed.ensures c.hear.new.messages)
    (g.K.Sink.taken c.put-3.new.sink) (c.in_ok-put-2.ensures.whole ∙ ap (append_known (g.W.Sink.taken c.args.wire.now)) c.deref.ensures.value)
    (subst (λ text. Took (g.K.Sink.taken c.put.new.sink) (g.K.Sink.taken c.put-3.new.sink) (λ wrote. IsFrontOf wrote text)) c.as_bytes-2.ensures.value c.in_err-put-3.ensures.front))

pub returns-clause-said : goal.returns-clause-said
returns-clause-said g c =
    turns-passed c.args.self.now.client c.hear.new.client c.args.self.now.messages c.hear.new.messages (g.L.Line.reads c.args.line.now) (g.L.Line.reads c.recv.new.self) (g.C.Clock.moments c.args.clock.now)
    (g.W.Sink.taken c.args.wire.now) (g.K.Sink.taken c.args.out.now) (g.K.Sink.taken c.put.new.sink) (read_of c.in-Ok.got c.recv.new.buf) (string_bytes c.in_ok-said.said.text)
    (subst (λ r. TellsMore (g.L.Line.reads c.args.line.now) (g.L.Line.reads c.recv.new.self) (reads_of r c.recv.new.buf)) c.in-Ok.is c.recv.ensures.reads)
    (c.in_ok-put.ensures.whole ∙ ap (append_known (g.K.Sink.taken c.args.out.now)) c.as_bytes.ensures.value) c.in_ok-said.said.is_over c.if-said.false c.in_ok-said.ensures (g.C.Clock.moments c.now-millis.new.self) c.now-millis.result c.now-millis.ensures.moments c.pass.new.client (g.W.Sink.taken c.put-2.new.sink) c.in_ok-passed.passed.octets.items (string_bytes c.in_ok-passed.passed.said.text)
    c.in_ok-passed.passed.said.is_over (c.in_ok-passed.ensures c.hear.new.messages)
    (g.K.Sink.taken c.put-3.new.sink) (c.in_ok-put-2.ensures.whole ∙ ap (append_known (g.W.Sink.taken c.args.wire.now)) c.deref.ensures.value)
    (c.in_ok-put-3.ensures.whole ∙ ap (append_known (g.K.Sink.taken c.put.new.sink)) c.as_bytes-2.ensures.value)
