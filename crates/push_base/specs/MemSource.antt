-- A source in memory.
--     SourceState      its octets and its calls
--     after_reading, after_failing      the state after a read
use Rattle.std.specs.Prelude.{ℕ, length, min}
use Rattle.push_base.specs.Calls.{CallLog, counted, faulted}
use Rattle.push_base.specs.Supply.{Supplied, first_item, after_giving}

-- its octets and its calls
pub record SourceState : Type 0 where
  pub octets : Supplied
  pub calls : CallLog

-- how many octets a read into so much room gives: as many of the first item as fit
abbrev pub count_for : ℕ → SourceState → ℕ
count_for room s = min (length (first_item s.octets.items)) room

-- after a read that gave n octets
abbrev pub after_reading : ℕ → SourceState → SourceState
after_reading n s = record { octets = after_giving n s.octets; calls = counted s.calls }

-- after a read that failed
abbrev pub after_failing : SourceState → SourceState
after_failing s = record s { calls = faulted (counted s.calls) }
