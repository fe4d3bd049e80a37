use Rattle.std.proofs.Common.{rules, not}
use Rattle.std.proofs.lemmas.Fn.{always_returns_same}
use Rattle.rrset.specs.RecordSet.{is_of_rrset}
use Rattle.zoneupdate.proofs.sets.take_set.Goals as goal

pub returns : goal.returns
returns c = c.retain.ensures.rows (λ key. not (is_of_rrset c.args.owner.now 1 c.args.kind key)) (always_returns_same _ _ _ (λ a r f' k. search rules))
