use Rattle.std.proofs.Common.{◌≡◌, ◌-◌}
use Rattle.pushclient.specs.Clients.{free_id, ids_in_use}
use Rattle.pushclient.proofs.connection.Connection.free_id.Given as goal

abbrev pub invariant-turns : goal.invariant-turns
invariant-turns l = free_id (l.turns - l._turn) (ids_in_use l.wishes l.self) l.id ≡ free_id l.turns (ids_in_use l.wishes l.self) l.fn.start
