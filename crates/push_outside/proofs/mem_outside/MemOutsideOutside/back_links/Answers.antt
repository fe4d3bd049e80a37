use Rattle.std.proofs.Common.{ap}
use Rattle.push_base.specs.MemDatagrams.{DatagramsState}
use Rattle.push_base.specs.DatagramSupply.{given_told}
use Rattle.push_outside.proofs.Shelving.{adds_told}
use Rattle.push_outside.proofs.mem_outside.MemOutsideOutside.back_links.Goals as goal

pub returns-clause-given : goal.returns-clause-given
returns-clause-given c = adds_told (λ (x : DatagramsState). given_told x.items) _ _ _ _ (ap (λ s. s.links) c.self.view_is) c.take_back.ensures
