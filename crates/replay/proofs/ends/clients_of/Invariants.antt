use Rattle.std.proofs.Common.{◌≡◌, ◌++◌, map}
use Rattle.replay.specs.KeptWorlds.{KeptSeat, seated}
use Rattle.replay.proofs.ends.clients_of.Given as goal

-- the clients so far, and those of the seats that are left
abbrev pub invariant-seats : goal.invariant-seats
invariant-seats l = l.clients.items ++ map (λ (k : KeptSeat). k.client) (seated l.seat-iterator.rest.items) ≡ map (λ (k : KeptSeat). k.client) (seated l.fn.seats.items)
