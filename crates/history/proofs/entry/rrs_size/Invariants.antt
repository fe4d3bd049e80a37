use Rattle.std.proofs.Common.{◌≡◌, take, sum_by}
use Rattle.rrset.specs.Records.{rr_size}
use Rattle.rrset.specs.Tables.{counted}
use Rattle.history.proofs.entry.rrs_size.Given as goal

abbrev pub invariant-rrs : goal.invariant-rrs
invariant-rrs l = l.sum ≡ counted (sum_by rr_size (take l.rr-index l.rrs))
