use Rattle.linkmap.proofs.Shown.{shown_under}
use Rattle.linkmap.proofs.laws.shown_is_under_the_domain.Goals as goal

pub returns : goal.returns
returns c domain rr shown usable e = shown_under domain rr shown usable e
