use Rattle.std.specs.Prelude.{is_ok}
use Rattle.serving.specs.Jobs.{pair_of}
use Rattle.serving.proofs.Handing.{front_none}
use Rattle.serving.proofs.Opening.{accepts_one, counts_by_one}
use Rattle.serving.proofs.server.Server.open_session.Goals as goal

pub returns-in_default-clause-started : goal.returns-in_default-clause-started
returns-in_default-clause-started g c = front_none (pair_of c.args.self.now.turns c.args.self.now.made) (g.O.Starter.Starter.started c.args.starter.now)

pub returns-clause-accepted : goal.returns-clause-accepted
returns-clause-accepted g c =
    accepts_one (is_ok c.seat.result) (g.O.Doors.Doors.accepted c.args.doors.now) (g.O.Doors.Doors.accepted c.accept.new.self)
    (counts_by_one (g.O.Doors.Doors.accepted c.args.doors.now) (g.O.Doors.Doors.accepted c.accept.new.self) c.in-Ok.ensures.accepted)
