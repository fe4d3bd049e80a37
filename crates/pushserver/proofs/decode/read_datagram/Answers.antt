-- What is made of one datagram fits an empty journal.
use Rattle.std.proofs.Common.{arith}
use Rattle.pushserver.proofs.Observed.{are_octets}
use Rattle.pushserver.proofs.Offering.{read-fits}
use Rattle.pushserver.proofs.decode.read_datagram.Goals as goal

pub returns-clause-fits : goal.returns-clause-fits
returns-clause-fits c = read-fits c.args.datagram.now (are_octets c.args.datagram.now (λ i h. omega (arith, c.type_inv.datagram i))) c.in_ok-read.read c.in_ok-read.ensures
