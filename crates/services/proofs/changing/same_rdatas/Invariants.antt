use Rattle.std.proofs.Common.{◌≡◌, length, drop}
use Rattle.services.specs.Services.{same_rdatas}
use Rattle.services.proofs.changing.same_rdatas.Given as goal

abbrev pub invariant-rdatas : goal.invariant-rdatas
invariant-rdatas l = (length l.first ≡ length l.second) × (same_rdatas (drop l.index l.first) (drop l.index l.second) ≡ same_rdatas l.fn.first l.fn.second)
