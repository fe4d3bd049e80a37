use Rattle.std.proofs.Common.{◌≡◌, ℕ, ◌+◌, List, [], ◌∷◌, ◌++◌, length, ap, ◌∙◌, subst, arith}
use Rattle.std.specs.Prelude.{is_ok}
use Rattle.std.proofs.lemmas.Result.{err_from_is_err_and}
use Rattle.push_base.specs.Told.{TellsMore}
use Rattle.push_base.specs.declared.role.Role.TheVariants as roles
use Rattle.serving.specs.Jobs.{HandsFront}
use Rattle.serving.specs.Servers.{ServerState, SeatsAll}
use Rattle.serving.specs.Serving.{numbers_of}
use Rattle.serving.proofs.Handing.{starts_all, starts_clock, starts_links, starts_whole}
use Rattle.serving.proofs.Opening.{accepts_none, returns_any, returns_err, whole_with_job}
use Rattle.serving.proofs.server.Server.open.Goals as goal

pub open_sessions-requires-clause-made : goal.open_sessions-requires-clause-made
open_sessions-requires-clause-made g c = λ κs fits. ap (λ (s : ServerState). s.made) c.in_ok-start_clock.ensures.ok ∙ c.in_ok-start_links.ensures.ok.1

pub open_sessions-requires-clause-whole : goal.open_sessions-requires-clause-whole
open_sessions-requires-clause-whole g c = λ κs fits.
    whole_with_job c.start_links.new.self c.start_clock.new.self c.in_ok-start_clock.ensures.ok (omega (arith, c.in_ok-start_clock.ensures.enough)) c.in_ok-start_links.ensures.ok.0

pub returns-in_err-start_links-clause-started : goal.returns-in_err-start_links-clause-started
returns-in_err-start_links-clause-started g c =
    let p = err_from_is_err_and c.from_residual.result c.from_residual.ensures.1 in
    starts_links c.args.self.now.turns (numbers_of c.args.links.now.items) c.args.sessions (g.O.Starter.Starter.started c.args.starter.now) (g.O.Starter.Starter.started c.start_links.new.starter) c.from_residual.result p.0 p.1 c.in_err-start_links.ensures.started

pub returns-in_err-start_links-clause-accepted : goal.returns-in_err-start_links-clause-accepted
returns-in_err-start_links-clause-accepted g c =
    let p = err_from_is_err_and c.from_residual.result c.from_residual.ensures.1 in
    accepts_none c.args.sessions (g.O.Doors.Doors.accepted c.args.doors.now) c.from_residual.result p.0 p.1

pub returns-in_err-start_links-clause-links : goal.returns-in_err-start_links-clause-links
returns-in_err-start_links-clause-links g c =
    let p = err_from_is_err_and c.from_residual.result c.from_residual.ensures.1 in
    returns_err (numbers_of c.args.links.now.items) _ c.from_residual.result p.0 p.1 c.in_err-start_links.ensures.links

pub returns-in_err-start_clock-clause-started : goal.returns-in_err-start_clock-clause-started
returns-in_err-start_clock-clause-started g c =
    let p = err_from_is_err_and c.from_residual-in_err-start_clock.result c.from_residual-in_err-start_clock.ensures.1 in
    starts_clock c.args.self.now.turns (numbers_of c.args.links.now.items) c.args.sessions (g.O.Starter.Starter.started c.args.starter.now) (g.O.Starter.Starter.started c.start_links.new.starter) (g.O.Starter.Starter.started c.start_clock.new.starter)
    c.from_residual-in_err-start_clock.result p.0 p.1 c.in_ok-start_links.ensures.started
    (subst (λ (t : ℕ). HandsFront ((roles.Clock, t) ∷ []) (g.O.Starter.Starter.started c.start_links.new.starter) (g.O.Starter.Starter.started c.start_clock.new.starter)) c.in_ok-start_links.ensures.ok.3 c.in_err-start_clock.ensures.started)

pub returns-in_err-start_clock-clause-accepted : goal.returns-in_err-start_clock-clause-accepted
returns-in_err-start_clock-clause-accepted g c =
    let p = err_from_is_err_and c.from_residual-in_err-start_clock.result c.from_residual-in_err-start_clock.ensures.1 in
    accepts_none c.args.sessions (g.O.Doors.Doors.accepted c.args.doors.now) c.from_residual-in_err-start_clock.result p.0 p.1

pub returns-in_err-start_clock-clause-links : goal.returns-in_err-start_clock-clause-links
returns-in_err-start_clock-clause-links g c =
    returns_any (is_ok c.from_residual-in_err-start_clock.result) (numbers_of c.args.links.now.items) _
    (ap (λ (ls : List ℕ). ls ++ numbers_of c.start_links.new.links.items) c.start_clock.ensures.links ∙ c.in_ok-start_links.ensures.links)

pub returns-in_err-start_clock-clause-room : goal.returns-in_err-start_clock-clause-room
returns-in_err-start_clock-clause-room g c =
    let links : length c.start_clock.new.self.links ≡ length c.start_links.new.self.links = ap (λ (ls : List ℕ). length ls) c.start_clock.ensures.links in
    omega (arith, links, c.start_links.ensures.room)

pub returns-clause-started : goal.returns-clause-started
returns-clause-started g c =
    let turns : c.start_clock.new.self.turns ≡ c.args.self.now.turns = ap (λ (s : ServerState). s.turns) c.in_ok-start_clock.ensures.ok ∙ c.in_ok-start_links.ensures.ok.3 in
    starts_all c.args.self.now.turns (numbers_of c.args.links.now.items) c.args.sessions (g.O.Starter.Starter.started c.args.starter.now) (g.O.Starter.Starter.started c.start_links.new.starter) (g.O.Starter.Starter.started c.start_clock.new.starter) (g.O.Starter.Starter.started c.open_sessions.new.starter)
    c.start_clock.new.self c.open_sessions.new.self c.open_sessions.result c.in_ok-start_links.ensures.started
    (subst (λ (t : ℕ). TellsMore (g.O.Starter.Starter.started c.start_links.new.starter) (g.O.Starter.Starter.started c.start_clock.new.starter) ((roles.Clock, t) ∷ [])) c.in_ok-start_links.ensures.ok.3 c.in_ok-start_clock.ensures.started)
    (subst (λ (t : ℕ). SeatsAll t c.args.sessions (g.O.Starter.Starter.started c.start_clock.new.starter) (g.O.Starter.Starter.started c.open_sessions.new.starter) c.start_clock.new.self c.open_sessions.new.self c.open_sessions.result) turns c.open_sessions.ensures.started)

pub returns-clause-all : goal.returns-clause-all
returns-clause-all g c =
    let turns : c.start_clock.new.self.turns ≡ c.args.self.now.turns = ap (λ (s : ServerState). s.turns) c.in_ok-start_clock.ensures.ok ∙ c.in_ok-start_links.ensures.ok.3 in
    starts_whole c.args.self.now.turns (numbers_of c.args.links.now.items) c.args.sessions (g.O.Starter.Starter.started c.args.starter.now) (g.O.Starter.Starter.started c.start_links.new.starter) (g.O.Starter.Starter.started c.start_clock.new.starter) (g.O.Starter.Starter.started c.open_sessions.new.starter)
    c.start_clock.new.self c.open_sessions.new.self c.open_sessions.result c.in_ok-start_links.ensures.started
    (subst (λ (t : ℕ). TellsMore (g.O.Starter.Starter.started c.start_links.new.starter) (g.O.Starter.Starter.started c.start_clock.new.starter) ((roles.Clock, t) ∷ [])) c.in_ok-start_links.ensures.ok.3 c.in_ok-start_clock.ensures.started)
    (subst (λ (t : ℕ). SeatsAll t c.args.sessions (g.O.Starter.Starter.started c.start_clock.new.starter) (g.O.Starter.Starter.started c.open_sessions.new.starter) c.start_clock.new.self c.open_sessions.new.self c.open_sessions.result) turns c.open_sessions.ensures.started)
    (ap (λ (s : ServerState). s.jobs) c.in_ok-start_clock.ensures.ok ∙ ap (λ (n : ℕ). n + 1) c.in_ok-start_links.ensures.ok.2)
    (c.open_sessions.ensures.links ∙ (c.start_clock.ensures.links ∙ c.in_ok-start_links.ensures.all))

pub returns-clause-links : goal.returns-clause-links
returns-clause-links g c =
    returns_any (is_ok c.open_sessions.result) (numbers_of c.args.links.now.items) _
    (ap (λ (ls : List ℕ). ls ++ numbers_of c.start_links.new.links.items) (c.open_sessions.ensures.links ∙ c.start_clock.ensures.links) ∙ c.in_ok-start_links.ensures.links)

pub returns-clause-room : goal.returns-clause-room
returns-clause-room g c =
    let links : length c.open_sessions.new.self.links ≡ length c.start_links.new.self.links = ap (λ (ls : List ℕ). length ls) (c.open_sessions.ensures.links ∙ c.start_clock.ensures.links) in
    omega (arith, links, c.start_links.ensures.room)
