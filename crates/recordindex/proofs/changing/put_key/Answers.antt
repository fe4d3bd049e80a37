use Rattle.std.proofs.Common.{sym, subst}
use Rattle.recordindex.specs.Owners.{AreOwners}
use Rattle.recordindex.proofs.changing.put_key.Goals as goal

pub returns-in-Err-clause-owners : goal.returns-in-Err-clause-owners
returns-in-Err-clause-owners g c = subst (AreOwners c.count_ahead.new.suffixes) (sym c.put_in_room.ensures.rows) (c.count_ahead.ensures.owners c.args.shown)
