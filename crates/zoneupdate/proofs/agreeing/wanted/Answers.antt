use Rattle.std.proofs.Common.{subst, sym}
use Rattle.rrset.specs.Tables.{HasLowerOwner}
use Rattle.rrset.proofs.LowerNames.{key_of-lower}
use Rattle.rrset.specs.declared.record.Key.{Key}
use Rattle.zoneupdate.proofs.agreeing.wanted.Goals as goal

pub put-requires : goal.put-requires
put-requires c = subst (λ (k : Key). HasLowerOwner k) (sym c.in_ok-key.ensures) (key_of-lower c.rr-item.result)
