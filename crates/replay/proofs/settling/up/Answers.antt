use Rattle.std.proofs.Common.{List, ℕ, take, ap, ◌∙◌}
use Rattle.replay.specs.KeptWorlds.{seat_kept}
use Rattle.replay.proofs.passings.Passings.{up-passes}
use Rattle.replay.proofs.settling.up.Goals as goal

pub returns : goal.returns
returns c = up-passes c.args.most c.args.hub.now c.take-count.new.self c.args.session (seat_kept c.args.seat.now) c.take-count.result c.front_of.result.now c.drop_front.new.list.items
    (c.front_of.ensures ∙ ap (λ (o : List ℕ). take c.args.most o) c.deref.ensures.value) (λ hub stands. (c.take-count.ensures.count hub stands, c.take-count.ensures.hub hub stands, c.take-count.ensures.asking)) c.drop_front.ensures
