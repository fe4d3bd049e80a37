-- The records of a name are those of its home.
use Rattle.std.proofs.Common.{None, Some, sym, ◌∙◌, ap}
use Rattle.history.specs.Kept.{HomesKept}
use Rattle.history.proofs.AllRecords.{matching-zone, matching-link, matching-kept}
use Rattle.history.proofs.homes.Homes.matching.Goals as goal

pub returns-in-Some-Zone : goal.returns-in-Some-Zone
returns-in-Some-Zone c =
    matching-zone c.args.self.now c.deref.result.now c.args.question.now c.in-Some-Zone.index c.home.result c.zone_matching.result (c.deref.ensures.value ∙ ap (λ (h : HomesKept). h.zones) c.self.view_is) c.home.ensures (c.in-Some-Zone.is ∙ ap Some c.in-Some-Zone.field-0-is) c.zone_matching.ensures

pub returns-in-Some-Link : goal.returns-in-Some-Link
returns-in-Some-Link c =
    matching-link c.args.self.now c.deref-in-Some-Link.result.now c.args.question.now c.in-Some-Link.index c.home.result c.link_matching.result (c.deref-in-Some-Link.ensures.value ∙ ap (λ (h : HomesKept). h.links) c.self.view_is) c.home.ensures (c.in-Some-Link.is ∙ ap Some c.in-Some-Link.field-0-is) c.link_matching.ensures

pub returns-in-None : goal.returns-in-None
returns-in-None c = λ t home. matching-kept c.args.self.now c.args.question.now None c.new.result (sym c.in-None.is ∙ c.home.ensures) c.new.ensures t home
