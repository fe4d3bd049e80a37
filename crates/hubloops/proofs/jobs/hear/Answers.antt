use Rattle.push_base.specs.Causes.{Rose}
use Rattle.hubloops.specs.LinkReader.{seen}
use Rattle.hubloops.proofs.Leaving.{hears_left}
use Rattle.hubloops.proofs.jobs.hear.Goals as goal

pub returns : goal.returns
returns g c = record { run = hears_left c.args.link (Rose (g.D.Datagrams.faults c.args.datagrams) (g.D.Datagrams.faults c.hear_link-end.new.datagrams)) (seen (g.G.Gate.state c.args.gate) (g.D.Datagrams.given c.args.datagrams) (g.D.Datagrams.sent c.args.datagrams) (g.D.Datagrams.calls c.args.datagrams)) (g.G.Gate.state c.hear_link-end.new.gate) (g.G.Gate.left c.leave-left.result) (g.D.Datagrams.given c.hear_link-end.new.datagrams) (g.D.Datagrams.sent c.hear_link-end.new.datagrams) (g.D.Datagrams.calls c.hear_link-end.new.datagrams) (g.D.Datagrams.left c.hear_link-end.new.datagrams) c.args.turns c.hear_link-end.result c.leave-left.ensures c.hear_link-end.ensures.run }
