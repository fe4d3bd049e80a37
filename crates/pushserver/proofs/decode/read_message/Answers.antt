-- What is made of one message fits an empty journal.
use Rattle.std.proofs.Common.{arith}
use Rattle.pushserver.proofs.Observed.{are_octets}
use Rattle.pushserver.proofs.Offering.{found-fits}
use Rattle.pushserver.proofs.decode.read_message.Goals as goal

pub returns-clause-fits : goal.returns-clause-fits
returns-clause-fits c = found-fits c.args.message.now (are_octets c.args.message.now (λ i h. omega (arith, c.type_inv.message i))) c.in_ok-found.found c.in_ok-found.ensures
