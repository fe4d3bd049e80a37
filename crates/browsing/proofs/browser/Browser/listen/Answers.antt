use Rattle.std.proofs.Common.{ℕ, length, ◌∙◌, ap}
use Rattle.std.specs.Prelude.{◌==◌, if◌then◌else◌}
use Rattle.browsing.proofs.browser.Browser.listen.Goals as goal

pub returns : goal.returns
returns c = λ b s. record {
  client = c.in_ok-hear.ensures b.client s.client;
  root = s.root;
  asked = s.asked;
  heard = c.heard_at-self.ensures ∙ ap (λ (h : ℕ). if length c.args.octets.now == 0 then h else c.args.now) s.heard;
  showing = s.showing;
  stage = s.stage;
}
