use Rattle.linkask.proofs.Sizes.{made-small}
use Rattle.linkask.proofs.known.datagram.Goals as goal

pub returns-clause-size : goal.returns-clause-size
returns-clause-size c = made-small c.args.question.now c.deref.result.now c.new-octets.result.items c.write_query.new.out.items c.octets-name.ensures.name c.new-octets.ensures.items c.in_ok-write_query.ensures.ok
