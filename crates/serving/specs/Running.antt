-- Jobs that are finished while others run.
--     IsMovedOn      each job that was finished gave its part of each ledger, and how its loop ended
use Rattle.std.specs.Prelude.{◌≡◌, ℕ, ◌+◌, ◌≤◌}
use Rattle.hublock.specs.Feeds.{FeedState, each}

-- as many jobs are left out as parts of each ledger and ends came
pub record IsMovedOn (feed now : FeedState) (jobs jobs_now ends ends_now : ℕ) : Type 0 where
  pub each_is : now.parts ≡ each now.parts.changes
  pub back : now.parts.changes + ends ≡ feed.parts.changes + ends_now
  pub fewer : jobs_now + ends_now ≡ jobs + ends
  pub more : ends ≤ ends_now
