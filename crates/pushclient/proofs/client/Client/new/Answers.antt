-- The plain client's call.
use Rattle.std.proofs.Common.{sym, subst}
use Rattle.pushclient.proofs.Dropping.{new_stands}
use Rattle.pushclient.specs.Clients.{new_client}
use Rattle.pushclient.specs.Rule.{StandsFor}
use Rattle.pushclient.proofs.client.Client.new.Goals as goal

pub returns : goal.returns
returns c = subst (λ k. StandsFor k new_client) (sym c.new.ensures) new_stands

pub invariant_of-result : goal.invariant_of-result
invariant_of-result c = (new_client, subst (λ k. StandsFor k new_client) (sym c.new.ensures) new_stands)
