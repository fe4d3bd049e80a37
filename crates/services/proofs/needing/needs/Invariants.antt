use Rattle.std.proofs.Common.{◌≡◌, ◌++◌, drop}
use Rattle.std.specs.List.{flat_map}
use Rattle.services.specs.Services.{asks_of, needs}
use Rattle.services.proofs.needing.needs.Given as goal

-- the questions so far, and the services that are left
abbrev pub invariant-services : goal.invariant-services
invariant-services l = l.questions ++ flat_map asks_of (drop l.service-index l.fn.list) ≡ needs l.fn.root l.fn.list
