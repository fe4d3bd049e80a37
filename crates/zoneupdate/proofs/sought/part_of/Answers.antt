use Rattle.zoneupdate.proofs.SoughtParts.{whole-part}
use Rattle.zoneupdate.proofs.sought.part_of.Goals as goal

pub returns-in-None-clause-part : goal.returns-in-None-clause-part
returns-in-None-clause-part c = λ apex changes h. whole-part apex changes c.args.named.now
