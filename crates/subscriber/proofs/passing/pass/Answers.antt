use Rattle.std.proofs.Common.{ℕ, subst, string_bytes}
use Rattle.pushclient.specs.Rule.{StandsFor}
use Rattle.pushclient.specs.Steps.{moment}
use Rattle.subscriber.proofs.Moments.{passes}
use Rattle.subscriber.proofs.passing.pass.Goals as goal

pub returns : goal.returns
returns c messages =
    passes c.args.millis c.args.client.now c.moment.new.self c.hand_out_over.new.client messages c.in_ok-octets.octets.items (string_bytes c.in_ok-said.said.text) c.in_ok-said.said.is_over c.closed.result
    (λ plain stands. subst (λ (t : ℕ). StandsFor c.moment.new.self (moment plain t)) c.capped.ensures (c.in_ok-moment.ensures.ok plain stands)) c.in_ok-octets.ensures c.closed.ensures c.in_ok-said.ensures
