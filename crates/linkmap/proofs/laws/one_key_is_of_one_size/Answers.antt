use Rattle.linkmap.proofs.OneSize.{size_as_one}
use Rattle.linkmap.proofs.laws.one_key_is_of_one_size.Goals as goal

pub returns : goal.returns
returns c domain rr other same = size_as_one domain rr other same
