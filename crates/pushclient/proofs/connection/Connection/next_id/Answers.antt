use Rattle.std.proofs.Common.{ap, ◌∙◌}
use Rattle.pushclient.specs.Clients.{Connection, ids_in_use, id_after}
use Rattle.pushclient.proofs.Ids.{bound}
use Rattle.pushclient.proofs.connection.Connection.next_id.Goals as goal

pub returns : goal.returns
returns c = bound 1025 (ids_in_use c.args.wishes.now c.args.self.now) c.id_after.result (id_after c.args.self.now.last_id) c.free_id.result c.free_id.ensures (c.id_after.ensures ∙ ap (λ (s : Connection). id_after s.last_id) c.self.view_is)
