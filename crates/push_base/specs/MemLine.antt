-- A line in memory.
--     LineState      its items and its calls
--     after_receiving, after_failing      the state after a call
use Rattle.std.specs.Prelude.{ℕ}
use Rattle.push_base.specs.Calls.{CallLog, counted, faulted}
use Rattle.push_base.specs.LineSupply as supply

-- its items and its calls
pub record LineState : Type 0 where
  pub items : supply.LineSupplied
  pub calls : CallLog

-- after a call with so much room that didn't fail
abbrev pub after_receiving : ℕ → LineState → LineState
after_receiving room s = record { items = supply.after_receiving room s.items; calls = counted s.calls }

-- after a call that failed
abbrev pub after_failing : LineState → LineState
after_failing s = record s { calls = faulted (counted s.calls) }
