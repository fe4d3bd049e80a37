-- Bounds on steps that are counted.
--     CountsUpTo bound old new      from one count to the other at most so many steps were taken
use Rattle.std.specs.Prelude.{ℕ, ◌+◌, ◌≤◌}

pub record CountsUpTo (bound old new : ℕ) : Type 0 where
  pub later : old ≤ new
  pub most : new ≤ old + bound
