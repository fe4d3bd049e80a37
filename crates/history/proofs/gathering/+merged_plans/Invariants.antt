use Rattle.std.proofs.Common.{length}
use Rattle.history.proofs.gathering.+merged_plans.Given as goal

abbrev pub decreases-merged_plans : goal.decreases-merged_plans
decreases-merged_plans l = length l.plans.now
