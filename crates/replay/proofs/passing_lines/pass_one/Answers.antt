use Rattle.replay.specs.KeptWorlds.{seat_kept}
use Rattle.replay.proofs.passings.Endings.{ends-made}
use Rattle.replay.proofs.passing_lines.pass_one.Goals as goal
use Rattle.replay.specs.Text.{passes_way}
use Rattle.replay.specs.LineCalls.{way_calls, with_session}
use Rattle.replay.proofs.calls.Passed.{sessions-by}

pub returns : goal.returns
returns c = ends-made (passes_way c.args.way) (with_session (way_calls c.args.way)) (sessions-by c.args.way) c.args.hub.now c.pass_by.new.hub c.finish-closing.new.hub (seat_kept c.args.seat.now) (seat_kept c.pass_by.new.seat) (seat_kept c.finish-closing.new.seat) c.in_ok-passage.passage.count c.in_ok-passage.passage.over
    c.finish-closing.result c.in_ok-passage.ensures c.finish-closing.ensures
