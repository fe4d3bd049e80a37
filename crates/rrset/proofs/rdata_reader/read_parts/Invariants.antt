use Rattle.std.proofs.Common.{◌≡◌, ◌≤◌, drop}
use Rattle.rrset.specs.ReadParts.{read_from}
use Rattle.rrset.proofs.Expanding.{behind}
use Rattle.rrset.proofs.rdata_reader.read_parts.Given as goal

abbrev pub invariant-parts : goal.invariant-parts
invariant-parts l = (l.place ≤ l.end) × (behind l.out.items (read_from (drop l.part-index l.parts) l.message l.end l.place) ≡ read_from l.parts l.message l.end l.at)
