-- The calls of an object in memory.
--     CallLog      which calls fail, how many were made, how many faults came
--     NextFails, counted, faulted      the next call fails; after one more call; after one more fault
use Rattle.std.specs.Prelude.{ℕ, List, Contains}
use Rattle.push_base.specs.Causes.{next_count}

-- the numbers of the calls that fail, counted from 1; how many were made; how many faults came
pub record CallLog : Type 0 where
  pub fails : List ℕ
  pub made : ℕ
  pub faults : ℕ

-- the next call is one of those that fail
abbrev pub NextFails : CallLog → Type 0
NextFails log = Contains log.fails (next_count log.made)

-- after one more call
abbrev pub counted : CallLog → CallLog
counted log = record log { made = next_count log.made }

-- after one more fault
abbrev pub faulted : CallLog → CallLog
faulted log = record log { faults = next_count log.faults }
