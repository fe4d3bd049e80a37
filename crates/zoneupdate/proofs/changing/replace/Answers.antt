use Rattle.std.proofs.Common.{rules}
use Rattle.zoneupdate.specs.Changing.{replaced}
use Rattle.zoneupdate.proofs.changing.replace.Goals as goal

pub returns : goal.returns
unfolding replaced
returns c = search rules
