use Rattle.std.proofs.Common.{subst, sym}
use Rattle.rrset.specs.Tables.{HasLowerOwner}
use Rattle.rrset.proofs.LowerNames.{key_of-lower}
use Rattle.linkcache.proofs.showing.put_rr.Goals as goal

pub put-requires : goal.put-requires
put-requires c = subst HasLowerOwner (sym c.in_ok-key.ensures) (key_of-lower c.args.rr)
