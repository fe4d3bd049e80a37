use Rattle.std.proofs.Common.{◌≡◌, ◌≤◌, [], ◌∷◌, ap, ◌∙◌}
use Rattle.std.proofs.lemmas.Result.{err_from_is_err_and}
use Rattle.push_base.specs.declared.role.Role.TheVariants as roles
use Rattle.hubloops.specs.Jobs.{role_in}
use Rattle.serving.specs.Servers.{ServerState}
use Rattle.serving.proofs.Handing.{front_none, over_as, over_err}
use Rattle.serving.proofs.Opening.{on_ok}
use Rattle.serving.proofs.server.Server.start_reader.Goals as goal

pub returns-in_err-shared-clause-started : goal.returns-in_err-shared-clause-started
returns-in_err-shared-clause-started g c =
    let p = err_from_is_err_and c.from_residual.result c.from_residual.ensures.1 in
    over_err ((roles.Reader c.args.session, c.args.self.now.turns) ∷ []) (g.O.Starter.Starter.started c.args.starter.now) (g.O.Starter.Starter.started c.args.starter.now) c.from_residual.result p.0 p.1
    (front_none ((roles.Reader c.args.session, c.args.self.now.turns) ∷ []) (g.O.Starter.Starter.started c.args.starter.now))

pub returns-clause-started : goal.returns-clause-started
returns-clause-started g c =
    let turns : c.self.inside.turns ≡ c.args.self.now.turns = ap (λ (s : ServerState). s.turns) c.self.view_is ∙ ap (λ (s : ServerState). s.turns) c.in_ok-shared.ensures.state in
    over_as (g.O.Starter.Starter.started c.args.starter.now) (g.O.Starter.Starter.started c.start.new.starter) (role_in c.reader-job.result.work) (roles.Reader c.args.session) c.reader-job.result.turns c.args.self.now.turns c.start.result
    c.reader-job.ensures.0 (c.reader-job.ensures.1 ∙ turns) c.start.ensures.started

pub returns-clause-enough : goal.returns-clause-enough
returns-clause-enough g c = on_ok c.start.result (2 ≤ c.args.self.now.parts) c.in_ok-shared.ensures.enough
