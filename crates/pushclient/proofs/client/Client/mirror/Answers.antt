-- The plain client's call.
use Rattle.std.proofs.Common.{refl, subst}
use Rattle.pushclient.proofs.Calls.{told}
use Rattle.pushclient.proofs.Dropping.{held_stands}
use Rattle.pushclient.specs.Clients.{held}
use Rattle.pushclient.specs.Kept.{HoldsAs, kept_held}
use Rattle.pushclient.proofs.client.Client.mirror.Goals as goal

pub returns : goal.returns
returns c = λ plain s. subst (HoldsAs c.mirror.result) (told (λ k. kept_held k c.args.question.now) (λ p. held p c.args.question.now) (λ k p s. held_stands k p s c.args.question.now) c.args.self.now c.self.inside.keeping (kept_held c.self.inside.keeping c.args.question.now) c.self.view_is refl plain s) c.mirror.ensures
