use Rattle.std.proofs.Common.{arith}
use Rattle.zoneupdate.proofs.SoaLengths.{length-risen}
use Rattle.zoneupdate.proofs.single.rises_alike.Goals as goal

pub returns : goal.returns
returns c = length-risen c.args.rdata.now (λ i h. omega (arith, c.type_inv.rdata i))
