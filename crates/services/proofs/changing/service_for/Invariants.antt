use Rattle.std.proofs.Common.{◌≡◌, drop}
use Rattle.std.specs.Prelude.{find}
use Rattle.services.specs.Services.{is_for}
use Rattle.services.proofs.changing.service_for.Given as goal

abbrev pub invariant-services : goal.invariant-services
invariant-services l = find (is_for l.fn.instance) (drop l.service-index l.fn.list) ≡ find (is_for l.fn.instance) l.fn.list
