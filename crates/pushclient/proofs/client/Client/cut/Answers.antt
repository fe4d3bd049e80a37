-- The plain client's call.
use Rattle.pushclient.proofs.Calls.{moved, keeps}
use Rattle.pushclient.proofs.Dropping.{cut_stands}
use Rattle.pushclient.specs.Clients.{cut}
use Rattle.pushclient.specs.Kept.{kept_cut}
use Rattle.pushclient.proofs.client.Client.cut.Goals as goal

pub returns : goal.returns
returns c = moved kept_cut cut (λ k p s. cut_stands k p s) c.args.self.now c.self.inside.keeping c.cut.new.self c.self.view_is c.cut.ensures

pub invariant_of-self : goal.invariant_of-self
invariant_of-self c = keeps kept_cut cut (λ k p s. cut_stands k p s) c.self.inside.keeping c.cut.new.self c.cut.ensures c.self.invariant
