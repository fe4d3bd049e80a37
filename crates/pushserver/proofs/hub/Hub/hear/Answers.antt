-- Where the datagram isn't read for want of memory nothing is counted.
use Rattle.livesessions.proofs.NotedSessions.{counts-nothing}
use Rattle.pushserver.specs.Watched.{allowed, hear_changes}
use Rattle.pushserver.proofs.hub.Hub.hear.Goals as goal

pub returns-in_err-read-clause-steps : goal.returns-in_err-read-clause-steps
returns-in_err-read-clause-steps g c = counts-nothing (allowed c.args.self.now (hear_changes c.args.self.now c.args.link c.args.datagram.now)) c.args.steps.now
