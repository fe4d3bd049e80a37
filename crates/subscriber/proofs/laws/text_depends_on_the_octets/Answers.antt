use Rattle.subscriber.proofs.CutTexts.{says-the-octets, ends-the-octets, says-the-same}
use Rattle.subscriber.proofs.laws.text_depends_on_the_octets.Goals as goal

pub returns-clause-octets : goal.returns-clause-octets
returns-clause-octets c = says-the-octets

pub returns-clause-ended : goal.returns-clause-ended
returns-clause-ended c = ends-the-octets

pub returns-clause-same : goal.returns-clause-same
returns-clause-same c = says-the-same
