use Rattle.std.proofs.Common.{List, ℕ, take, ap, ◌∙◌}
use Rattle.replay.specs.KeptWorlds.{seat_kept}
use Rattle.replay.proofs.passings.Passings.{down-passes}
use Rattle.replay.proofs.settling.down.Goals as goal

pub returns : goal.returns
returns c = λ hub. down-passes c.args.most hub (seat_kept c.args.seat.now) c.deliver.new.client c.in_ok-count.count c.in_ok-seat.field-0 c.front_of.result.now c.drop_front.new.list.items
    (c.front_of.ensures ∙ ap (λ (o : List ℕ). take c.args.most o) c.deref.ensures.value) c.in_ok-count.ensures c.drop_front.ensures c.in_ok-seat.ensures.0 c.in_ok-seat.ensures.1
