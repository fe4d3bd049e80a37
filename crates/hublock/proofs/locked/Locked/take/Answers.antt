use Rattle.hubloops.proofs.Answering.{does_take}
use Rattle.hublock.proofs.locked.Locked.take.Goals as goal

pub returns-clause-call : goal.returns-clause-call
returns-clause-call g c = rw (← c.self.view_is) (does_take c.self.inside.hub c.take-count.new.self c.args.session c.args.piece.now c.take-count.result c.take-count.ensures.count c.take-count.ensures.hub c.take-count.ensures.kept c.take-count.ensures.asking)
