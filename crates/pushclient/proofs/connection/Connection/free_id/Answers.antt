use Rattle.std.proofs.Common.{sym, ◌∙◌}
use Rattle.pushclient.specs.Clients.{ids_in_use}
use Rattle.pushclient.proofs.Ids.{more}
use Rattle.pushclient.proofs.connection.Connection.free_id.Goals as goal

pub turns-preserved : goal.turns-preserved
turns-preserved c = more c.args.turns c.turns._turn _ (ids_in_use c.args.wishes.now c.args.self.now) c.turns.id c.id_after-id.result c.turns-test.true (sym c.has_id.ensures ∙ c.if-not-has_id.false) c.id_after-id.ensures c.turns.invariant
