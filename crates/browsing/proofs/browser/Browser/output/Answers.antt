use Rattle.browsing.proofs.Machine.{handed}
use Rattle.browsing.proofs.browser.Browser.output.Goals as goal

pub returns : goal.returns
returns c = λ b s.
    let hands = handed c.args.self.now.client c.hand_out_over.new.client c.in_ok-octets.octets.items b.client c.in_ok-octets.ensures s.client in
    (hands.all, record { client = hands.stands; root = s.root; asked = s.asked; heard = s.heard; showing = s.showing; stage = s.stage })
