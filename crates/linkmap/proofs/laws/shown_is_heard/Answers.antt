use Rattle.linkmap.proofs.HeardBack.{shown_is_heard}
use Rattle.linkmap.proofs.laws.shown_is_heard.Goals as goal

pub returns : goal.returns
returns c domain rr shown back is apart fits usable e same = shown_is_heard domain rr shown back is apart fits usable e same
