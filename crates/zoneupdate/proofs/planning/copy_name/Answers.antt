use Rattle.std.proofs.Common.{sym, subst}
use Rattle.rrset.specs.RecordSet.{RecordSet, at_name}
use Rattle.rrset.specs.Tables.{HaveLowerOwners}
use Rattle.dnsname.specs.Names.{same_name}
use Rattle.zoneupdate.proofs.RecordSets.{set-only, set-lower_owners}
use Rattle.zoneupdate.proofs.planning.copy_name.Goals as goal

pub put_all-requires : goal.put_all-requires
put_all-requires c = subst (λ (rows : RecordSet). HaveLowerOwners rows) (sym c.at.ensures)
    (set-lower_owners (at_name c.args.name.now c.args.rows.now.rows) (set-only (λ key. same_name c.args.name.now key.owner) c.args.rows.now.rows c.requires))
