use Rattle.std.proofs.Common.{◌≡◌, ℕ, List, length, ap, ◌∙◌, arith}
use Rattle.std.specs.Prelude.{⊤}
use Rattle.std.proofs.lemmas.Result.{err_from_is_err_and}
use Rattle.serving.specs.declared.serve_end.Fault.{Fault}
use Rattle.serving.proofs.Opening.{accepts_fault, accepts_more, counts_by_none, seats_err, sessions_begun, sessions_fault, sessions_more}
use Rattle.serving.proofs.server.Server.open_sessions.Goals as goal

pub sessions-init : goal.sessions-init
sessions-init g c = record {
  so_far = sessions_begun (g.O.Starter.Starter.started c.args.starter.now) c.args.self.now c.requires.made;
  accepted = counts_by_none (g.O.Doors.Doors.accepted c.args.doors.now);
  starter = omega arith;
  doors = omega arith;
}

pub sessions-preserved : goal.sessions-preserved
sessions-preserved g c = record {
  so_far = sessions_more ⊤ Fault c.args.self.now.turns c.sessions.session (g.O.Starter.Starter.started c.args.starter.now) (g.O.Starter.Starter.started c.sessions.starter) (g.O.Starter.Starter.started c.open_session.new.starter)
      c.args.self.now c.sessions.self c.open_session.new.self tt c.sessions.invariant.so_far c.in_ok-open_session.ensures.started;
  accepted = accepts_more c.sessions.session (g.O.Doors.Doors.accepted c.args.doors.now) (g.O.Doors.Doors.accepted c.sessions.doors) (g.O.Doors.Doors.accepted c.open_session.new.doors) c.sessions.invariant.accepted c.in_ok-open_session.ensures.accepted;
  starter = omega (arith, c.open_session.ensures.later.0, c.sessions.invariant.starter);
  doors = omega (arith, c.open_session.ensures.later.1, c.sessions.invariant.doors);
}

pub returns-in_err-open_session-clause-started : goal.returns-in_err-open_session-clause-started
returns-in_err-open_session-clause-started g c =
    let p = err_from_is_err_and c.from_residual.result c.from_residual.ensures.1 in
    seats_err c.args.self.now.turns c.args.sessions (g.O.Starter.Starter.started c.args.starter.now) (g.O.Starter.Starter.started c.open_session.new.starter) c.args.self.now c.open_session.new.self c.from_residual.result p.0 p.1
    (sessions_fault ⊤ Fault c.args.self.now.turns c.sessions.session c.args.sessions (g.O.Starter.Starter.started c.args.starter.now) (g.O.Starter.Starter.started c.sessions.starter) (g.O.Starter.Starter.started c.open_session.new.starter)
    c.args.self.now c.sessions.self c.open_session.new.self p.0 c.sessions-test.true c.sessions.invariant.so_far c.in_err-open_session.ensures.started)

pub returns-in_err-open_session-clause-accepted : goal.returns-in_err-open_session-clause-accepted
returns-in_err-open_session-clause-accepted g c =
    let p = err_from_is_err_and c.from_residual.result c.from_residual.ensures.1 in
    accepts_fault c.sessions.session c.args.sessions (g.O.Doors.Doors.accepted c.args.doors.now) (g.O.Doors.Doors.accepted c.sessions.doors) (g.O.Doors.Doors.accepted c.open_session.new.doors) c.from_residual.result p.0 p.1
    c.sessions-test.true c.sessions.invariant.accepted c.in_err-open_session.ensures.accepted

pub returns-in_err-open_session-clause-links : goal.returns-in_err-open_session-clause-links
returns-in_err-open_session-clause-links g c = c.open_session.ensures.links ∙ c.sessions.invariant.so_far.links

pub returns-clause-whole : goal.returns-clause-whole
returns-clause-whole g c =
    let links : length c.sessions.self.links ≡ length c.args.self.now.links = ap (λ (ls : List ℕ). length ls) c.sessions.invariant.so_far.links in
    omega (arith, links, c.sessions.invariant.so_far.parts, c.sessions.invariant.so_far.jobs, c.requires.whole)
