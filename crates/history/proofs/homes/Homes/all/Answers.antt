-- The records of the zones and links are those of the homes.
use Rattle.std.proofs.Common.{◌∙◌, ap}
use Rattle.history.specs.Kept.{HomesKept, states_at}
use Rattle.history.specs.States.{records}
use Rattle.history.proofs.homes.Homes.all.Goals as goal

pub returns : goal.returns
returns c =
    let zones = c.deref.ensures.value ∙ ap (λ (h : HomesKept). h.zones) c.self.view_is in
    let links = c.deref-2.ensures.value ∙ ap (λ (h : HomesKept). h.links) c.self.view_is in
    λ t. c.into_entries.ensures.rows ∙ c.in_ok-all.ensures t ∙ (λ i. records (states_at (zones i) (links i) t))
