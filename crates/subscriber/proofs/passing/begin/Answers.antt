use Rattle.std.proofs.Common.{ℕ, List, subst}
use Rattle.rrset.specs.declared.record.Question.{Question}
use Rattle.pushclient.specs.Clients.{connected}
use Rattle.pushclient.specs.Rule.{StandsFor}
use Rattle.configurations.specs.Kept.{subscribing_kept}
use Rattle.subscriber.specs.Said.{asking}
use Rattle.subscriber.proofs.Moments.{begins}
use Rattle.subscriber.proofs.passing.begin.Goals as goal

pub returns : goal.returns
returns c =
    begins (subscribing_kept c.args.configuration.now) c.args.millis c.in_ok-client.client c.hand_out_over.new.client c.in_ok-octets.octets.items
    (subst (λ (t : ℕ). StandsFor c.in_ok-client.client (connected t (asking c.args.configuration.now.questions.items))) c.capped.ensures
    (subst (λ (qs : List Question). StandsFor c.in_ok-client.client (connected c.capped.result (asking qs))) c.deref.ensures.value c.in_ok-client.ensures)) c.in_ok-octets.ensures
