use Rattle.hubloops.specs.LinkReader.{seen}
use Rattle.hubloops.specs.Loops.{observed}
use Rattle.hubloops.proofs.Working.{does_hear}
use Rattle.hubloops.proofs.jobs.JobTask.run.Goals as goal

pub returns-in-Read-clause-run : goal.returns-in-Read-clause-run
returns-in-Read-clause-run g c = rw c.in-Read.is c.read.ensures.run

pub returns-in-Write-clause-run : goal.returns-in-Write-clause-run
returns-in-Write-clause-run g c = rw c.in-Write.is c.write.ensures.run

pub returns-in-Hear-clause-run : goal.returns-in-Hear-clause-run
returns-in-Hear-clause-run g c = rw c.in-Hear.is (does_hear (λ gate line. observed gate (g.L.Line.given line) (g.L.Line.calls line)) (λ gate wire. observed gate (g.K.Sink.taken wire) (g.K.Sink.calls wire)) (λ gate links. seen gate (g.D.Datagrams.given links) (g.D.Datagrams.sent links) (g.D.Datagrams.calls links)) g.D.Datagrams.left g.D.Datagrams.faults (λ gate clock. observed gate (g.T.Clock.moments clock) (g.T.Clock.calls clock)) c.in-Hear.link c.in-Hear.datagrams c.hear.result.links (g.G.Gate.state c.args.self.gate) (g.G.Gate.left c.hear.result.left) c.args.self.turns c.hear.result.end c.hear.ensures.run)

pub returns-in-Tick-clause-run : goal.returns-in-Tick-clause-run
returns-in-Tick-clause-run g c = rw c.in-Tick.is c.tick.ensures.run
