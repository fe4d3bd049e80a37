use Rattle.std.proofs.Common.{ap, ◌++◌, ◌∙◌}
use Rattle.replay.specs.KeptExchanges.{noted_if}
use Rattle.replay.proofs.exchanges.Emitting.{gives-once}
use Rattle.replay.proofs.exchanging.give.Goals as goal

pub returns-clause-given : goal.returns-clause-given
returns-clause-given c = gives-once c.args.hub.now c.give_uncounted.new.self c.args.session c.args.octets.now.items c.extend_from_slice.new.self.items c.args.buffer.now c.give_uncounted.new.buf (noted_if c.args.notes c.args.filled.now.items) (noted_if c.args.notes c.remember.new.filled.items) c.in-Ok.given
    c.in-Ok.ensures.ok c.in-Ok.ensures.asks (c.in_ok-extend_from_slice.ensures.items ∙ ap (λ o. c.args.octets.now.items ++ o) c.front_of.ensures) c.in_ok-remember.ensures
