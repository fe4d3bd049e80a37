-- Doors in memory.
--     DoorsState      their sessions, how many were accepted, and their calls
--     after_accepting, after_failing      the state after a call
use Rattle.std.specs.Prelude.{ℕ, List, drop}
use Rattle.push_base.specs.Causes.{next_count}
use Rattle.push_base.specs.Calls.{CallLog, counted, faulted}

-- the sessions that are to come, each its line and its sink, how many were accepted, and the calls
pub record DoorsState (L K : Type 0) : Type 0 where
  pub items : List (L × K)
  pub accepted : ℕ
  pub calls : CallLog

-- after a session was accepted
abbrev pub after_accepting : {L K : Type 0} → DoorsState L K → DoorsState L K
after_accepting s = record { items = drop 1 s.items; accepted = next_count s.accepted; calls = counted s.calls }

-- after a call that failed
abbrev pub after_failing : {L K : Type 0} → DoorsState L K → DoorsState L K
after_failing s = record s { calls = faulted (counted s.calls) }
