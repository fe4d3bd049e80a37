use Rattle.std.proofs.Common.{refl}
use Rattle.replay.proofs.passings.Endings.{ends-at}
use Rattle.replay.proofs.passing_lines.pass_at.Goals as goal
use Rattle.replay.specs.Text.{passes_way}
use Rattle.replay.specs.LineCalls.{way_calls, with_session}

pub returns : goal.returns
returns c = ends-at (passes_way c.args.way) (with_session (way_calls c.args.way)) c.args.hub.now c.pass_one.new.hub c.args.seats.now _ c.args.place c.index-seats-place.result c.pass_one.new.seat c.in_ok-ending.ending.count c.in_ok-ending.ending.over c.in_ok-ending.ending.closing c.requires
    c.index-seats-place.is refl c.in_ok-ending.ensures
