-- Where a deadline is in a list in order, and where it would go.
--     IsAt moment key ds index      the key's deadline with this moment has the index
--     IsGapFor moment key ds index      before the index stands what comes before it, and from there on what comes behind it
use Rattle.std.specs.Prelude.{◌≡◌, ℕ, ◌<◌, ◌≤◌, length}
use Rattle.std.specs.List.{HoldsAt}
use Rattle.std.specs.List.Sorted.{IsPartitionPoint}
use Rattle.std.specs.declared.cmp.Ordering.{Ordering}
use Rattle.std.specs.declared.cmp.Ordering.TheVariants.{Less, Equal, Greater}
use Rattle.clockqueue.specs.Deadlines.{Deadlines, due_cmp}

module _ {K : Type 0} (cmp : K → K → Ordering) (moment : ℕ) (key : K) where
  -- the deadline is that with this index
  pub record IsAt (ds : Deadlines K) (index : ℕ) : Type 0 where
    pub within : index < length ds
    pub equal : HoldsAt (λ d. due_cmp cmp d (moment, key) ≡ Equal) ds index

  -- the deadlines before the index come before it, and those from there on behind it
  pub record IsGapFor (ds : Deadlines K) (index : ℕ) : Type 0 where
    pub within : index ≤ length ds
    pub between : IsPartitionPoint (λ d. due_cmp cmp d (moment, key) ≡ Less) (λ d. due_cmp cmp d (moment, key) ≡ Greater) ds index
