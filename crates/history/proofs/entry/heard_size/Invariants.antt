use Rattle.std.proofs.Common.{◌≡◌, take, sum_by}
use Rattle.rrset.specs.Records.{rr_size}
use Rattle.rrset.specs.Tables.{counted}
use Rattle.history.proofs.entry.heard_size.Given as goal

abbrev pub invariant-rrs : goal.invariant-rrs
invariant-rrs l = l.sum ≡ counted (sum_by (λ h. rr_size h.rr) (take l.heard-index l.rrs))
