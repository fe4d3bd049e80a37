use Rattle.std.proofs.Common.{◌≡◌, take, drop}
use Rattle.rrset.specs.RecordSet.{union}
use Rattle.rrset.proofs.comparing.put_all.Given as goal

abbrev pub invariant-entries : goal.invariant-entries
invariant-entries l =
    (union l.all.rows (drop l.key-index l.entries) ≡ union l.fn.all.rows l.entries) × (l.all.rows ≡ union l.fn.all.rows (take l.key-index l.entries))
