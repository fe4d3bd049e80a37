use Rattle.std.proofs.Common.{◌≤◌}
use Rattle.push_base.specs.Limits.{max_moment}
use Rattle.history.specs.Kept.{at_moment}
use Rattle.history.specs.HeldPlans.{IsStateOf}
use Rattle.history.specs.States.{state_at}
use Rattle.history.proofs.journal_replay.replayed.Given as goal

abbrev pub invariant-entries : goal.invariant-entries
invariant-entries l = IsStateOf l.homes l.now (state_at (at_moment l.start l.moment) l.entries.items l.index) × (l.now ≤ max_moment)
