use Rattle.std.proofs.Common.{length, ap}
use Rattle.push_base.specs.declared.failure.Failed.{Failed}
use Rattle.push_base.proofs.DatagramSupplyLemmas.{given_by_call}
use Rattle.push_base.proofs.mem_datagrams.MemDatagramsDatagrams.recv.Goals as goal

pub returns-clause-given : goal.returns-clause-given
returns-clause-given c =
    given_by_call Failed (length c.args.buf.now) c.args.self.now.items c.self.inside.items c.receive.new.self c.receive.result c.receive.new.buf
    (ap (λ v. v.items) c.self.view_is) c.receive.ensures.after c.receive.ensures.answer c.receive.ensures.octets
