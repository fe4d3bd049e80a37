use Rattle.linkmap.proofs.Shown.{shown_by_itself}
use Rattle.linkmap.proofs.laws.each_is_shown_by_itself.Goals as goal

pub returns : goal.returns
returns c domain rr other shown again is usable useful e o same = shown_by_itself domain rr other shown again is usable useful e o same
