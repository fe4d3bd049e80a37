use Rattle.std.proofs.Common.{sym, ◌∙◌}
use Rattle.zoneupdate.proofs.ComparedOnce.{agrees-behind}
use Rattle.zoneupdate.proofs.agreeing.agrees_behind.Goals as goal

pub returns-then-is_of_same_set : goal.returns-then-is_of_same_set
returns-then-is_of_same_set c = sym (agrees-behind c.args.wanted.now.rows c.args.rows.now.rows c.args.last.now c.args.key.now (c.is_of_same_set.ensures c.if-is_of_same_set.true) c.requires.last)
