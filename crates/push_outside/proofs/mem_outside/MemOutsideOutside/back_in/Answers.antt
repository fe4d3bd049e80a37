use Rattle.std.proofs.Common.{Some, ap}
use Rattle.std.specs.List.{concat}
use Rattle.push_base.specs.MemSource.{SourceState}
use Rattle.push_outside.specs.Outside.{use_told}
use Rattle.push_outside.proofs.Shelving.{adds_told}
use Rattle.push_outside.proofs.mem_outside.MemOutsideOutside.back_in.Goals as goal

pub returns-clause-used : goal.returns-clause-used
returns-clause-used c = adds_told (λ (x : SourceState). use_told (Some x.octets.given) (Some (concat x.octets.items))) _ _ _ _ (ap (λ s. s.sources) c.self.view_is) c.take_back.ensures
