use Rattle.std.proofs.Common.{refl, ◌∙◌, ap}
use Rattle.browsing.specs.Showing.{begins_anew}
use Rattle.browsing.proofs.browser.Browser.connected.Goals as goal

pub returns : goal.returns
returns c = λ b s. record { client = c.in_ok-connected.ensures.ok b.client s.client; root = s.root; asked = s.asked; heard = refl; showing = c.begin.ensures ∙ ap (begins_anew c.args.now) s.showing; stage = refl }
