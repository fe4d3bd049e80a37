use Rattle.std.proofs.Common.{ℕ, ◌+◌, ◌-◌, ◌≤◌, inl, map, vec_len, refl, ap, ◌∙◌, subst}
use Rattle.std.specs.Prelude.{Err}
use Rattle.pushserver.specs.Hubs.{max_sessions}
use Rattle.serving.specs.Jobs.{pair_of}
use Rattle.serving.specs.Servers.{ServerState}
use Rattle.serving.proofs.Handing.{front_none}
use Rattle.serving.proofs.Opening.{seat_takes}
use Rattle.serving.proofs.server.Server.seat.Goals as goal

pub returns-in-Ok-clause-started : goal.returns-in-Ok-clause-started
returns-in-Ok-clause-started g c =
    let held : ℕ → ServerState = λ n. record { parts = c.self.inside.feed.parts.changes - vec_len c.self.inside.ends; made = n; links = map (λ h. h.link) c.self.inside.hearings.items; jobs = vec_len c.self.inside.jobs + vec_len c.self.inside.ends; turns = c.self.inside.turns } in
    let more : ServerState → ServerState = λ s. record s { made = s.made + 1 } in
    seat_takes c.in-Ok.session (g.O.Starter.Starter.started c.args.starter.now) (g.O.Starter.Starter.started c.start_session.new.starter) c.args.self.now (held c.connect.new.seats.made) c.start_session.new.self c.start_session.result
    (c.in-Ok.ensures.ok.0 ∙ ap (λ (s : ServerState). s.made) c.self.view_is) (ap held c.in-Ok.ensures.ok.1 ∙ ap more c.self.view_is)
    c.start_session.ensures.started c.start_session.ensures.ok c.start_session.ensures.enough

pub returns-in-Err-NoSeat-clause-started : goal.returns-in-Err-NoSeat-clause-started
returns-in-Err-NoSeat-clause-started g c =
    let held : ℕ → ServerState = λ n. record { parts = c.self.inside.feed.parts.changes - vec_len c.self.inside.ends; made = n; links = map (λ h. h.link) c.self.inside.hearings.items; jobs = vec_len c.self.inside.jobs + vec_len c.self.inside.ends; turns = c.self.inside.turns } in
    inl (refl, ap held c.in-Err-NoSeat.ensures.err ∙ c.self.view_is, subst (λ (s : ServerState). max_sessions ≤ s.made) c.self.view_is (c.in-Err-NoSeat.ensures.no_seat (ap Err c.in-Err-NoSeat.field-0-is)))

pub returns-in-Err-NoMemory-clause-started : goal.returns-in-Err-NoMemory-clause-started
returns-in-Err-NoMemory-clause-started g c = front_none (pair_of c.args.self.now.turns c.args.self.now.made) (g.O.Starter.Starter.started c.args.starter.now)
