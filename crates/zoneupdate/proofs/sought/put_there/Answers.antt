use Rattle.std.proofs.Common.{subst, sym}
use Rattle.rrset.specs.Tables.{HasLowerOwner}
use Rattle.rrset.proofs.LowerNames.{key_of-lower}
use Rattle.rrset.specs.declared.record.Key.{Key}
use Rattle.zoneupdate.specs.Updates.{as_class_in}
use Rattle.zoneupdate.proofs.sought.put_there.Goals as goal

pub put-requires : goal.put-requires
put-requires c = subst (λ (k : Key). HasLowerOwner k) (sym c.in_ok-key.ensures) (key_of-lower (as_class_in c.args.rr.now))
