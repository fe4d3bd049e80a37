use Rattle.clockqueue.proofs.Keyed.{first-before, without-first}
use Rattle.clockqueue.proofs.laws.first_deadline.Goals as goal

pub returns-clause-least : goal.returns-clause-least
returns-clause-least g c d ds are = first-before g.met.K.Ord.total d ds are

pub returns-clause-rest : goal.returns-clause-rest
returns-clause-rest g c d ds are = without-first g.met.K.Ord.total d ds are
