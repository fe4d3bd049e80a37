use Rattle.linkmap.proofs.Shown.{heard_is_shown}
use Rattle.linkmap.proofs.laws.heard_is_shown.Goals as goal

pub returns : goal.returns
returns c domain rr heard e = heard_is_shown domain rr heard e
