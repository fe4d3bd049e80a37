use Rattle.std.proofs.Common.{◌≡◌, ◌++◌, List, OnOk, Option, Some, option_map, option_to_list, sym, ap, subst, ◌∙◌}
use Rattle.scripts.specs.WholeScripts.{Carrier, carries_alone}
use Rattle.scripts.specs.Carrying.{alone_in}
use Rattle.scripts.specs.KeptWhole.{carrier_in, carrier_kept}
use Rattle.scripts.specs.declared.named.Carrier as named
use Rattle.scripts.proofs.named.add_carrier.Goals as goal

pub returns-in-Some : goal.returns-in-Some
returns-in-Some c =
    let is : Some (carrier_kept c.in-Some.carrier) ≡ carrier_in c.args.line.now = ap (λ (o : Option named.Carrier). option_map {T = named.Carrier} {U = Carrier} (λ k. carrier_kept k) o) (sym c.in-Some.is) ∙ c.in_ok-carrier.ensures in
    subst (λ (o : Option Carrier). OnOk c.add.result ((before : List Carrier) → alone_in c.args.carriers.now ≡ carries_alone before → alone_in c.add.new.self ≡ carries_alone (before ++ option_to_list o))) is c.add.ensures
