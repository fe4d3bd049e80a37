use Rattle.std.proofs.Common.{◌≡◌, take}
use Rattle.rrset.specs.RecordSet.{size_of}
use Rattle.rrset.specs.Tables.{counted}
use Rattle.relay.proofs.relay.fits_message.Given as goal

abbrev pub invariant-entries : goal.invariant-entries
invariant-entries l = l.size ≡ counted (size_of (take l.entry-index l.entry-items))
