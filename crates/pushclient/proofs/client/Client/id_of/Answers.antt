-- The plain client's call.
use Rattle.pushclient.proofs.Calls.{told}
use Rattle.pushclient.proofs.Dropping.{id_stands}
use Rattle.pushclient.specs.Clients.{id_of}
use Rattle.pushclient.specs.Kept.{kept_id_of}
use Rattle.pushclient.proofs.client.Client.id_of.Goals as goal

pub returns : goal.returns
returns c = told (λ k. kept_id_of k c.args.question.now) (λ p. id_of p c.args.question.now) (λ k p s. id_stands k p s c.args.question.now) c.args.self.now c.self.inside.keeping c.id_of.result c.self.view_is c.id_of.ensures
