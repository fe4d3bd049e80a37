use Rattle.two_hubs.proofs.Telling.{one-text, whole-replies-one}
use Rattle.two_hubs.proofs.WholeReading.{are-whole-lines}
use Rattle.two_hubs.proofs.Written.{carries-written}
use Rattle.two_hubs.proofs.whole_replies_are_one.Goals as goal

pub returns-clause-text : goal.returns-clause-text
returns-clause-text c = λ script are. one-text script are (carries-written script are)

pub returns-clause-one : goal.returns-clause-one
returns-clause-one c = whole-replies-one are-whole-lines carries-written
