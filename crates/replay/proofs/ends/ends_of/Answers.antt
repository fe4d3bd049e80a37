use Rattle.std.proofs.Common.{◌∙◌, map}
use Rattle.replay.specs.KeptWorlds.{KeptSeat, seated}
use Rattle.replay.specs.TwoWorlds.{woven}
use Rattle.replay.proofs.ends.ends_of.Goals as goal

pub returns-clause-clients : goal.returns-clause-clients
returns-clause-clients c =
    c.in_ok-clients.ensures
    ∙ (λ i. woven (c.deref.ensures.value i) (map (λ (k : KeptSeat). k.client) (seated (c.parts_of-hub.ensures.seats i))) (map (λ (k : KeptSeat). k.client) (seated (c.parts_of-far_hub.ensures.seats i))))
