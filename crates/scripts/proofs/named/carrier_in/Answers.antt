use Rattle.std.proofs.Common.{◌≡◌, ◌++◌, List, ℕ, IfOk, Option, option_map, sym, ap, subst, ◌∙◌}
use Rattle.scripts.specs.WholeScripts.{Carrier}
use Rattle.scripts.specs.KeptWhole.{carrier_kept}
use Rattle.scripts.specs.declared.named.Carrier as named
use Rattle.scripts.proofs.lines.Joined.{front_found, front_none}
use Rattle.scripts.proofs.wholes.Named.{carried-behind, carried-none}
use Rattle.scripts.proofs.named.carrier_in.Goals as goal

pub returns-in-Some : goal.returns-in-Some
returns-in-Some c =
    let line = c.args.line.now in
    let rest = c.in-Some.rest.now in
    let whole = front_found line c.as_slice.result.now rest c.in-Some.ensures.cases.0 c.in-Some.ensures.cases.1 ∙ ap (λ (front : List ℕ). front ++ rest) c.as_slice.ensures in
    subst (λ (o : Option Carrier). IfOk c.carrier_behind.result (λ (found : Option named.Carrier). option_map {T = named.Carrier} {U = Carrier} (λ c. carrier_kept c) found ≡ o)) (carried-behind line rest whole) c.carrier_behind.ensures

pub returns-in-None : goal.returns-in-None
returns-in-None c =
    let line = c.args.line.now in
    carried-none line (λ rest e. front_none line c.as_slice.result.now c.in-None.ensures.cases rest (e ∙ ap (λ (front : List ℕ). front ++ rest) (sym c.as_slice.ensures)))
