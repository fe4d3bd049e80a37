use Rattle.hubloops.proofs.Answering.{does_connect}
use Rattle.hublock.proofs.locked.Locked.connect.Goals as goal

pub returns-then-is_ok-clause-call : goal.returns-then-is_ok-clause-call
returns-then-is_ok-clause-call g c = rw (← c.self.view_is) (does_connect c.self.inside.hub c.connect-answer.new.self c.connect-answer.result c.connect-answer.ensures.ok c.connect-answer.ensures.no_seat c.connect-answer.ensures.kept c.connect-answer.ensures.same c.connect-answer.ensures.seat c.connect-answer.ensures.seats c.connect-answer.ensures.asking)

pub returns-else-is_ok-clause-call : goal.returns-else-is_ok-clause-call
returns-else-is_ok-clause-call g c = rw (← c.self.view_is) (does_connect c.self.inside.hub c.connect-answer.new.self c.connect-answer.result c.connect-answer.ensures.ok c.connect-answer.ensures.no_seat c.connect-answer.ensures.kept c.connect-answer.ensures.same c.connect-answer.ensures.seat c.connect-answer.ensures.seats c.connect-answer.ensures.asking)
