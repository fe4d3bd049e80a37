use Rattle.std.proofs.Common.{◌∙◌, arith}
use Rattle.dnsname.proofs.Eights.{four_is}
use Rattle.dnsname.proofs.Standing.{AreOctets-drop, below-take}
use Rattle.dnsname.proofs.comparing.four_at.Goals as goal

pub returns-clause-number : goal.returns-clause-number
returns-clause-number c = c.from_be_bytes.ensures ∙ four_is c.args.octets.now c.args.place c.requires

pub returns-clause-octets : goal.returns-clause-octets
returns-clause-octets c = below-take 4 _ (AreOctets-drop c.args.place c.args.octets.now (λ i h. omega (arith, c.type_inv.octets i)))
