use Rattle.linkmap.proofs.OneKey.{shown_as_one}
use Rattle.linkmap.proofs.laws.one_key_is_shown_as_one.Goals as goal

pub returns : goal.returns
returns c domain rr other is same usable = shown_as_one domain rr other is same usable
