use Rattle.std.proofs.Common.{◌∙◌, map, ap, refl, sym}
use Rattle.std.specs.Char.{to_ascii_lowercase}
use Rattle.std.proofs.lemmas.Slice.Eq.{bytes_eq-Decides}
use Rattle.dnsname.proofs.suffix.same_but_for_case.Goals as goal

pub returns-then-eq : goal.returns-then-eq
returns-then-eq c = (λ _. ap (map to_ascii_lowercase) ((bytes_eq-Decides c.args.first.now c.args.second.now).0 (sym c.eq.ensures ∙ c.if-eq.true)), λ _. refl)
