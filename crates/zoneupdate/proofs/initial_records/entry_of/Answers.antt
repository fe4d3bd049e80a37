use Rattle.std.proofs.Common.{subst, sym}
use Rattle.rrset.specs.Tables.{HasLowerOwner}
use Rattle.rrset.proofs.LowerNames.{key_of-lower}
use Rattle.zoneupdate.proofs.initial_records.entry_of.Goals as goal

pub returns-clause-lower : goal.returns-clause-lower
returns-clause-lower c = subst HasLowerOwner (sym c.in_ok-key.ensures) (key_of-lower c.args.rr)
