use Rattle.std.proofs.Common.{◌≡◌, ◌≤◌, length, drop}
use Rattle.rrset.specs.Parts.{changed_name, changed_from}
use Rattle.rrset.proofs.ChangedNames.{prefixed}
use Rattle.rrset.proofs.renaming.changed_parts.Given as goal

abbrev pub invariant-parts : goal.invariant-parts
invariant-parts l = (l.place ≤ length l.rdata) × (prefixed l.out.items (changed_from (changed_name l.change) (drop l.part-index l.parts) l.rdata l.place) ≡ changed_from (changed_name l.change) l.parts l.rdata 0)
