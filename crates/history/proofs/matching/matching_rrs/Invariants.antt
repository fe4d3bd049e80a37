use Rattle.std.proofs.Common.{◌≡◌, map, take}
use Rattle.rrset.specs.Records.{rr_of}
use Rattle.rrset.specs.RecordSet.{matching}
use Rattle.history.proofs.matching.matching_rrs.Given as goal

abbrev pub invariant-rows : goal.invariant-rows
invariant-rows l = l.rrs ≡ map (λ e. rr_of e.0 e.1) (matching l.question (take l.key-index l.rows))
