use Rattle.std.proofs.Common.{◌∙◌, ap}
use Rattle.nametable.proofs.PlanRuns.{puts_among, puts_among-is, puts_of-is}
use Rattle.nametable.proofs.reserving.keys_of.Goals as goal

pub returns-then-changed-le-FEW : goal.returns-then-changed-le-FEW
returns-then-changed-le-FEW c = c.puts_of.ensures ∙ puts_of-is c.args.owner.now c.args.changed.now

pub returns : goal.returns
returns c = c.puts_among.ensures ∙ ap puts_among c.changes_of.ensures ∙ puts_among-is c.args.owner.now c.args.changed.now
