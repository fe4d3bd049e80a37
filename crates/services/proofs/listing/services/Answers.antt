use Rattle.std.proofs.Common.{◌∙◌, ap, map}
use Rattle.pushclient.specs.Clients.{held}
use Rattle.services.specs.Services.{service, instances_in}
use Rattle.services.proofs.listing.services.Goals as goal

pub returns : goal.returns
returns c = λ plain s. c.in_ok-all.ensures plain s ∙ ap (map (service (held plain))) (c.in_ok-instances.ensures ∙ ap instances_in (c.rows_of.ensures plain s))
