use Rattle.std.proofs.Common.{◌∙◌, ap, refl, subst, sym}
use Rattle.std.specs.Io.KnownBytes.{append_known}
use Rattle.std.proofs.lemmas.Result.{err_from_is_err_and}
use Rattle.push_base.specs.Written.{IsFrontOf, Took}
use Rattle.configurations.specs.Kept.{subscribing_kept}
use Rattle.subscriber.proofs.OneTurn.{is_write}
use Rattle.subscriber.proofs.Conversing.{converses-starved, converses-unsent, converses-told, converses-followed}
use Rattle.subscriber.proofs.subscribing.converse.Goals as goal

-- memory ran out before anything was asked
pub returns-in_err-begun-clause-said : goal.returns-in_err-begun-clause-said
returns-in_err-begun-clause-said g c =
    let p = err_from_is_err_and c.from_residual.result c.from_residual.ensures.1 in
    rw (p.1, p.2) (converses-starved (subscribing_kept c.args.configuration.now) c.now-millis.result (g.L.Line.reads c.args.line.now) (g.C.Clock.moments c.args.clock.now) (g.C.Clock.moments c.now-millis.new.self) c.now-millis.ensures.moments
    (g.K.Sink.taken c.args.out.now) (g.W.Sink.taken c.args.wire.now))

-- what is asked didn't go out
pub returns-in_err-put-clause-said : goal.returns-in_err-put-clause-said
returns-in_err-put-clause-said g c =
    let p = err_from_is_err_and c.from_residual-in_err-put.result c.from_residual-in_err-put.ensures.1 in
    rw (p.1, p.2, is_write c.in_err-put.field-0.0 c.in_err-put.ensures.fault) (converses-unsent (subscribing_kept c.args.configuration.now) c.now-millis.result (g.L.Line.reads c.args.line.now) (g.C.Clock.moments c.args.clock.now) (g.C.Clock.moments c.now-millis.new.self) c.now-millis.ensures.moments
    (g.K.Sink.taken c.args.out.now) (g.W.Sink.taken c.args.wire.now) c.in_ok-begun.begun.client c.in_ok-begun.begun.octets.items c.in_ok-begun.ensures (g.W.Sink.taken c.put.new.sink)
    (subst (λ text. Took (g.W.Sink.taken c.args.wire.now) (g.W.Sink.taken c.put.new.sink) (λ wrote. IsFrontOf wrote text)) c.deref.ensures.value c.in_err-put.ensures.front))

-- no message is counted
pub returns-then-is_used_up-clause-said : goal.returns-then-is_used_up-clause-said
returns-then-is_used_up-clause-said g c =
    converses-told (subscribing_kept c.args.configuration.now) c.now-millis.result (g.L.Line.reads c.args.line.now) (g.C.Clock.moments c.args.clock.now) (g.C.Clock.moments c.now-millis.new.self) c.now-millis.ensures.moments
    (g.K.Sink.taken c.args.out.now) (g.W.Sink.taken c.args.wire.now) c.in_ok-begun.begun.client c.in_ok-begun.begun.octets.items c.in_ok-begun.ensures (g.W.Sink.taken c.put.new.sink)
    (c.in_ok-put.ensures.whole ∙ ap (append_known (g.W.Sink.taken c.args.wire.now)) c.deref.ensures.value) (sym c.is_used_up.ensures ∙ c.if-is_used_up.true) _ refl (g.K.Sink.taken c.put-then-is_used_up.new.sink)
    c.put-then-is_used_up.result c.put-then-is_used_up.ensures.whole c.put-then-is_used_up.ensures.front c.put-then-is_used_up.ensures.fault

pub returns-clause-said : goal.returns-clause-said
returns-clause-said g c =
    converses-followed (subscribing_kept c.args.configuration.now) c.now-millis.result (g.L.Line.reads c.args.line.now) (g.C.Clock.moments c.args.clock.now) (g.C.Clock.moments c.now-millis.new.self) c.now-millis.ensures.moments
    (g.K.Sink.taken c.args.out.now) (g.W.Sink.taken c.args.wire.now) c.in_ok-begun.begun.client c.in_ok-begun.begun.octets.items c.in_ok-begun.ensures (g.W.Sink.taken c.put.new.sink)
    (c.in_ok-put.ensures.whole ∙ ap (append_known (g.W.Sink.taken c.args.wire.now)) c.deref.ensures.value) (g.L.Line.reads c.follow.new.line) (g.C.Clock.moments c.follow.new.clock) (g.K.Sink.taken c.follow.new.out) (g.W.Sink.taken c.follow.new.wire)
    c.follow.result (sym c.is_used_up.ensures ∙ c.if-is_used_up.false) c.follow.ensures.said
