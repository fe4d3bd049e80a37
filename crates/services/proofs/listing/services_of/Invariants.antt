use Rattle.std.proofs.Common.{◌≡◌, ◌++◌, map}
use Rattle.pushclient.specs.Clients.{Client, held}
use Rattle.pushclient.specs.Rule.{StandsFor}
use Rattle.services.specs.Services.{service}
use Rattle.services.proofs.listing.services_of.Given as goal

-- the services so far, and the instances that are left
abbrev pub invariant-instances : goal.invariant-instances
invariant-instances l = (plain : Client) → StandsFor l.fn.client plain → l.list ++ map (service (held plain)) l.instance-iterator.rest.items ≡ map (service (held plain)) l.fn.instances.items
