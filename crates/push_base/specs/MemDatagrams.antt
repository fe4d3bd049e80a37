-- Datagrams in memory.
--     DatagramsState      their items, what was sent, and their calls
--     after_receiving, after_sending, after_failing, after_starving      the state after a call
use Rattle.std.specs.Prelude.{ℕ, Bool, true, List, [], ◌∷◌, ◌++◌}
use Rattle.push_base.specs.Calls.{CallLog, counted, faulted}
use Rattle.push_base.specs.DatagramSupply as supply

-- their items, the datagrams that were sent, the octets for which these have room, whether a send was refused memory,
-- and their calls
pub record DatagramsState : Type 0 where
  pub items : supply.DatagramSupplied
  pub sent : List (List ℕ)
  pub room : ℕ
  pub starved : Bool
  pub calls : CallLog

-- after a call with so much room that received, and didn't fail
abbrev pub after_receiving : ℕ → DatagramsState → DatagramsState
after_receiving room s = record s { items = supply.after_receiving room s.items; calls = counted s.calls }

-- after a call that sent these octets
abbrev pub after_sending : List ℕ → DatagramsState → DatagramsState
after_sending octets s = record s { sent = s.sent ++ octets ∷ []; calls = counted s.calls }

-- after a call that failed by its number
abbrev pub after_failing : DatagramsState → DatagramsState
after_failing s = record s { calls = faulted (counted s.calls) }

-- after a send that was refused memory
abbrev pub after_starving : DatagramsState → DatagramsState
after_starving s = record s { starved = true; calls = faulted (counted s.calls) }
