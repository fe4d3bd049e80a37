use Rattle.std.proofs.Common.{Option, Some, option_map, sym, ap, ◌∙◌}
use Rattle.push_base.specs.Optional.{◌>>=◌}
use Rattle.scripts.specs.WholeLines.{WholeLine}
use Rattle.scripts.specs.WholeScripts.{Carrier, carried_by}
use Rattle.scripts.specs.KeptWhole.{carry_said}
use Rattle.scripts.specs.declared.whole_line.CarryLine.{CarryLine}
use Rattle.scripts.proofs.named.carrier_behind.Goals as goal

pub returns-in-None : goal.returns-in-None
returns-in-None c = ap (λ (o : Option WholeLine). o >>= carried_by) (ap (λ (o : Option CarryLine). option_map {T = CarryLine} {U = WholeLine} (λ l. carry_said l) o) (sym c.in-None.is) ∙ c.in_ok-carry_of.ensures.exact)

pub returns-in-Some : goal.returns-in-Some
returns-in-Some c =
    ap (λ (k : Carrier). Some k) c.carrier_of.ensures
    ∙ ap (λ (o : Option WholeLine). o >>= carried_by) (ap (λ (o : Option CarryLine). option_map {T = CarryLine} {U = WholeLine} (λ l. carry_said l) o) (sym c.in-Some.is) ∙ c.in_ok-carry_of.ensures.exact)
