use Rattle.browsing.proofs.browser.Browser.cut.Goals as goal

pub returns : goal.returns
returns c = λ b s. record { client = c.cut.ensures b.client s.client; root = s.root; asked = s.asked; heard = s.heard; showing = s.showing; stage = s.stage }
