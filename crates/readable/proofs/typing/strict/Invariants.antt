use Rattle.std.proofs.Common.{◌≡◌, ◌++◌, drop, string_bytes}
use Rattle.readable.specs.Typed.{strict, strict_from}
use Rattle.readable.proofs.typing.strict.Given as goal

-- what was written, and the octets that are left
abbrev pub invariant-octets : goal.invariant-octets
invariant-octets l = string_bytes l.text ++ strict_from l.quoted (drop l.octet-index l.fn.typed) ≡ strict l.fn.typed
