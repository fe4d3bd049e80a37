-- The link that is the home of the owner, and what it would have heard.
use Rattle.std.proofs.Common.{Some, ◌∙◌, ap}
use Rattle.history.specs.Kept.{HomesKept}
use Rattle.history.proofs.HeardKeys.{key-found}
use Rattle.history.proofs.homes.Homes.reconfirm_key.Goals as goal

pub returns-in-Some-Link : goal.returns-in-Some-Link
returns-in-Some-Link c =
    key-found c.args.self.now c.deref.result.now c.args.rr.now c.in-Some-Link.index c.home.result c.heard_key_at.result (c.deref.ensures.value ∙ ap (λ (h : HomesKept). h.links) c.self.view_is) c.home.ensures (c.in-Some-Link.is ∙ ap Some c.in-Some-Link.field-0-is) c.heard_key_at.ensures
