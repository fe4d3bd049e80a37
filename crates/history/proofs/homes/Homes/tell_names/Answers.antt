-- Each name is one.
use Rattle.std.proofs.Common.{◌∙◌, ap}
use Rattle.history.specs.Kept.{HomesKept}
use Rattle.history.proofs.TellingNames.{named-homes}
use Rattle.history.proofs.homes.Homes.tell_names.Goals as goal

pub returns : goal.returns
returns c =
    named-homes c.args.self.now c.deref.result.now c.deref-2.result.now (c.deref.ensures.value ∙ ap (λ (h : HomesKept). h.zones) c.self.view_is) (c.deref-2.ensures.value ∙ ap (λ (h : HomesKept). h.links) c.self.view_is) c.tell_zones.ensures c.tell_links.ensures
