-- The longest home is the home.
use Rattle.std.proofs.Common.{None, Some, ◌∙◌}
use Rattle.history.proofs.HomePlaces.{home-found}
use Rattle.history.proofs.homes.Homes.home.Goals as goal

pub returns-in_err-zone-in-None : goal.returns-in_err-zone-in-None
returns-in_err-zone-in-None c =
    c.from_residual.ensures
    ∙ home-found _ c.args.self.now c.deref.result.now c.deref-2.result.now c.args.name.now c.longest_zone-zone.result.0 c.longest_link.result c.longest_zone-zone.result.1 None None c.self.view_is c.self.invariant c.deref.ensures.value c.deref-2.ensures.value
    c.longest_zone-zone.ensures c.longest_link.ensures c.in_err-zone-in-None.was c.in-None.is

pub returns-in-Some : goal.returns-in-Some
returns-in-Some c =
    home-found _ c.args.self.now c.deref.result.now c.deref-2.result.now c.args.name.now c.longest_zone-zone.result.0 c.longest_link.result c.longest_zone-zone.result.1 c.longest_zone-zone.result.0 (Some c.in-Some.index) c.self.view_is c.self.invariant
    c.deref.ensures.value c.deref-2.ensures.value c.longest_zone-zone.ensures c.longest_link.ensures (λ i. c.longest_zone-zone.result.0) c.in-Some.is

pub returns-in_ok-zone-in-None : goal.returns-in_ok-zone-in-None
returns-in_ok-zone-in-None c =
    home-found _ c.args.self.now c.deref.result.now c.deref-2.result.now c.args.name.now c.longest_zone-zone.result.0 c.longest_link.result c.longest_zone-zone.result.1 (Some c.in_ok-zone-in-None.field-0) None c.self.view_is c.self.invariant c.deref.ensures.value
    c.deref-2.ensures.value c.longest_zone-zone.ensures c.longest_link.ensures c.in_ok-zone-in-None.was c.in-None.is
