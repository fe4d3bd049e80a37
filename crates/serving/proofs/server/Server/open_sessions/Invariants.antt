use Rattle.std.proofs.Common.{◌≤◌}
use Rattle.serving.specs.Serving.{CountsBy}
use Rattle.serving.proofs.Opening.{SessionsSoFar}
use Rattle.serving.proofs.server.Server.open_sessions.Given as goal

abbrev pub invariant-sessions : goal.invariant-sessions
invariant-sessions g l = record {
  so_far : SessionsSoFar l.fn.self.turns l.session (g.O.Starter.Starter.started l.fn.starter) (g.O.Starter.Starter.started l.starter) l.fn.self l.self;
  accepted : CountsBy l.session (g.O.Doors.Doors.accepted l.fn.doors) (g.O.Doors.Doors.accepted l.doors);
  starter : g.O.Starter.Starter.faults l.fn.starter ≤ g.O.Starter.Starter.faults l.starter;
  doors : g.O.Doors.Doors.faults l.fn.doors ≤ g.O.Doors.Doors.faults l.doors;
}
