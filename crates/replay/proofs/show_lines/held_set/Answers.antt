use Rattle.std.proofs.Common.{refl}
use Rattle.pushclient.specs.Clients.{off, asked_only, refused_with}
use Rattle.replay.proofs.halves.HeldSets.{holds-answered, holds-none, seen-where}
use Rattle.replay.proofs.show_lines.held_set.Goals as goal

pub returns-in-Off : goal.returns-in-Off
returns-in-Off c = holds-none c.args.world.now c.args.client c.index-seat.result.now c.args.question.now c.requires c.index-seat.ensures off (λ world seat. refl) c.in-Off.ensures

pub returns-in-Asked : goal.returns-in-Asked
returns-in-Asked c = holds-none c.args.world.now c.args.client c.index-seat.result.now c.args.question.now c.requires c.index-seat.ensures asked_only (λ world seat. refl) c.in-Asked.ensures

pub returns-in-Refused : goal.returns-in-Refused
returns-in-Refused c = holds-none c.args.world.now c.args.client c.index-seat.result.now c.args.question.now c.requires c.index-seat.ensures (refused_with _) (λ world seat. refl) c.in-Refused.ensures

pub returns-in-Answered : goal.returns-in-Answered
returns-in-Answered c =
    holds-answered c.args.world.now c.args.client c.index-seat.result.now c.args.question.now c.requires c.index-seat.ensures c.in-Answered.set.now.rows c.is_held.result _ c.in-Answered.ensures c.is_held.ensures
    (seen-where (λ t. t.now) (λ t. t.rows) c.set_where.result c.is_held.result c.in-Answered.set.now c.set_where.ensures)
