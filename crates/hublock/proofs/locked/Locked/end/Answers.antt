use Rattle.hubloops.proofs.Answering.{does_leave}
use Rattle.hublock.proofs.locked.Locked.end.Goals as goal

pub returns-clause-call : goal.returns-clause-call
returns-clause-call g c = rw (← c.self.view_is) (does_leave c.self.inside.hub c.end.new.self c.args.session c.end.ensures.hub c.end.ensures.kept c.end.ensures.asking c.end.ensures.asks)
