-- A sink in memory.
--     SinkState      what it has taken, its limits, and its calls
--     after_taking, after_failing, after_starving      the state after a write
use Rattle.std.specs.Prelude.{ℕ, Bool, true, List, [], ◌∷◌, ◌++◌, take, drop, min, ◌==◌, if◌then◌else◌}
use Rattle.push_base.specs.Calls.{CallLog, counted, faulted}

-- what it has taken, how much each coming call takes at most, the octets for which it has room, whether a write
-- was refused memory, and its calls
pub record SinkState : Type 0 where
  pub taken : List ℕ
  pub limits : List ℕ
  pub room : ℕ
  pub starved : Bool
  pub calls : CallLog

-- how many octets of a piece of this length the next call takes; all where no limit is left
abbrev pub count_under : List ℕ → ℕ → ℕ
count_under [] len = len
count_under (most ∷ limits) len = min most len

-- the calls after one more; it counts as a fault where it may take nothing
abbrev pub counted_under : List ℕ → CallLog → CallLog
counted_under [] log = counted log
counted_under (most ∷ limits) log = if most == 0 then faulted (counted log) else counted log

-- after a write that took n octets of the piece
abbrev pub after_taking : ℕ → List ℕ → SinkState → SinkState
after_taking n piece s = record {
  taken = s.taken ++ take n piece;
  limits = drop 1 s.limits;
  room = s.room;
  starved = s.starved;
  calls = counted_under s.limits s.calls;
}

-- after a write that failed by its number
abbrev pub after_failing : SinkState → SinkState
after_failing s = record s { calls = faulted (counted s.calls) }

-- after a write that was refused memory
abbrev pub after_starving : SinkState → SinkState
after_starving s = record s { starved = true; calls = faulted (counted s.calls) }
