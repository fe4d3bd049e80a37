use Rattle.std.proofs.Common.{◌≡◌, drop}
use Rattle.std.specs.Prelude.{◌==◌}
use Rattle.std.specs.List.{list_any, flat_map}
use Rattle.pushclient.specs.Clients.{id_in_use}
use Rattle.pushclient.proofs.wishes.use_id.Given as goal

abbrev pub invariant-wishes : goal.invariant-wishes
invariant-wishes l = list_any (λ u. u == l.fn.id) (flat_map (λ w. id_in_use w.standing) (drop l.wish-index l.wishes)) ≡ list_any (λ u. u == l.fn.id) (flat_map (λ w. id_in_use w.standing) l.wishes)
