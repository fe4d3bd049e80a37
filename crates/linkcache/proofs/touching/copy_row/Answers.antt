use Rattle.std.proofs.Common.{sym, subst}
use Rattle.rrset.specs.Tables.{HasLowerOwner}
use Rattle.linkcache.proofs.Copies.{found-lower}
use Rattle.linkcache.proofs.touching.copy_row.Goals as goal

pub put-requires : goal.put-requires
put-requires c = subst HasLowerOwner (sym c.in_ok-copy-in-Some.ensures) (found-lower c.args.key.now _ c.args.rows.now.rows c.requires c.in-Some.ensures)
