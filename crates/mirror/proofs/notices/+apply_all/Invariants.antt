use Rattle.std.proofs.Common.{length}
use Rattle.mirror.proofs.notices.+apply_all.Given as goal

-- proposed from what the function passes where it calls itself
abbrev pub decreases-apply_all : goal.decreases-apply_all
decreases-apply_all l = length l.entries.now
