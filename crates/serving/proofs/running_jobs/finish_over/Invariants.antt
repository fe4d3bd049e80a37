use Rattle.std.proofs.Common.{◌≡◌, ◌≤◌, vec_len}
use Rattle.std.specs.Prelude.{false}
use Rattle.std.specs.List.{list_any}
use Rattle.serving.specs.Ends.{is_link_fault}
use Rattle.serving.specs.Running.{IsMovedOn}
use Rattle.serving.proofs.running_jobs.finish_over.Given as goal

abbrev pub invariant-places : goal.invariant-places
invariant-places g l = record {
  left : l.place ≤ vec_len l.jobs;
  moved : IsMovedOn l.fn.feed l.feed (vec_len l.fn.jobs) (vec_len l.jobs) (vec_len l.fn.ends) (vec_len l.ends);
  linkless : list_any is_link_fault l.ends.items ≡ false;
}

abbrev pub decreases-places : goal.decreases-places
decreases-places g l = l.place
