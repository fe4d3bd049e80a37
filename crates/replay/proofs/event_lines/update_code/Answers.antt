use Rattle.replay.specs.KeptWorlds.{parties_of}
use Rattle.replay.proofs.halves.Closing.{updates-so}
use Rattle.replay.proofs.event_lines.update_code.Goals as goal

pub returns-in-Ok : goal.returns-in-Ok
returns-in-Ok c = updates-so c.args.world.now.hub c.update_uncounted.new.self (parties_of c.args.world.now) c.args.message.now c.in-Ok.code c.in-Ok.ensures.ok c.in-Ok.ensures.asks
