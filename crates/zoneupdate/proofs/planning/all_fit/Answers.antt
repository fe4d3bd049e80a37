use Rattle.std.proofs.Common.{sym, ◌∙◌}
use Rattle.zoneupdate.proofs.Judging.{light-fits}
use Rattle.zoneupdate.proofs.planning.all_fit.Goals as goal

pub returns-then-is_light : goal.returns-then-is_light
returns-then-is_light c = sym (light-fits c.args.apex.now c.args.changes.now c.args.work.now.rows (sym c.is_light.ensures ∙ c.if-is_light.true))
