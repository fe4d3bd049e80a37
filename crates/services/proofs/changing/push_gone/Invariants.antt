use Rattle.std.proofs.Common.{◌≡◌, ◌++◌, drop}
use Rattle.services.specs.Services.{gone_from}
use Rattle.services.proofs.changing.push_gone.Given as goal

-- what was appended, and the services that are left
abbrev pub invariant-services : goal.invariant-services
invariant-services l = l.out ++ gone_from l.fn.new (drop l.service-index l.fn.old) ≡ l.fn.out ++ gone_from l.fn.new l.fn.old
