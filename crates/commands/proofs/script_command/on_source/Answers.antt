use Rattle.commands.specs.declared.script_command.ScriptCommand.TheVariants.{Replay, Check}
use Rattle.commands.proofs.Running.{replied_to}
use Rattle.commands.proofs.script_command.on_source.Goals as goal

pub returns-in-Replay-clause-replied : goal.returns-in-Replay-clause-replied
returns-in-Replay-clause-replied g c = replied_to c.args.task Replay _ _ _ _ _ c.in-Replay.is c.replay.ensures.replied

pub returns-in-Check-clause-replied : goal.returns-in-Check-clause-replied
returns-in-Check-clause-replied g c = replied_to c.args.task Check _ _ _ _ _ c.in-Check.is c.check.ensures.replied
