use Rattle.linkcache.proofs.KeptSizes.{none-taken}
use Rattle.linkcache.proofs.room.taken_by.Goals as goal

pub returns : goal.returns
returns c rules = none-taken rules c.args.rows.now.rows c.len.result c.new.result.rows (c.len.ensures c.requires) c.new.ensures
