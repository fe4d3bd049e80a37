use Rattle.std.proofs.Common.{◌≡◌, ◌++◌, drop}
use Rattle.rrset.specs.RecordSet.{changes}
use Rattle.rrset.proofs.Differences.{changed_in}
use Rattle.rrset.proofs.comparing.changes.Given as goal

abbrev pub invariant-entries : goal.invariant-entries
invariant-entries l = l.changed.items ++ changed_in l.old.rows l.new.rows (drop l.key-index l.key-items) ≡ changes l.old.rows l.new.rows
