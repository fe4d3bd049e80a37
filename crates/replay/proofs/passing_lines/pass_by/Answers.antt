use Rattle.replay.specs.KeptWorlds.{seat_kept}
use Rattle.replay.proofs.passings.Endings.{passes-without, passes-then}
use Rattle.replay.proofs.passing_lines.pass_by.Goals as goal

pub returns-in-None : goal.returns-in-None
returns-in-None c = passes-without c.args.way c.args.hub.now (seat_kept c.args.seat.now) c.in-None.is

pub returns-in-Some : goal.returns-in-Some
returns-in-Some c = passes-then c.args.way c.args.hub.now c.pass.new.hub c.in-Some.session (seat_kept c.args.seat.now) (seat_kept c.pass.new.seat) c.pass.result c.in-Some.is c.pass.ensures
