use Rattle.std.proofs.Common.{◌≡◌, drop}
use Rattle.std.specs.Prelude.{filter}
use Rattle.rrset.specs.Records.{same_key}
use Rattle.linkreasons.specs.Changing.{questions_of_rows, unwanted_all}
use Rattle.linkreasons.proofs.asked_link.drop_same.Given as goal

abbrev pub invariant-rows : goal.invariant-rows
invariant-rows l = unwanted_all (questions_of_rows (filter (λ r. same_key l.row.0 r.0) (drop l.other-index l.rows))) l.asker ≡ unwanted_all (questions_of_rows (filter (λ r. same_key l.row.0 r.0) l.rows)) l.fn.asker
