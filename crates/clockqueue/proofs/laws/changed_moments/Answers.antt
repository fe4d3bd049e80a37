use Rattle.clockqueue.proofs.Keyed.{moment-with, moment-without}
use Rattle.clockqueue.proofs.laws.changed_moments.Goals as goal

pub returns-clause-given : goal.returns-clause-given
returns-clause-given g c key query moment ds = moment-with g.met.K.Ord.total query key moment ds

pub returns-clause-taken : goal.returns-clause-taken
returns-clause-taken g c key query ds = moment-without g.met.K.Ord.total query key ds
