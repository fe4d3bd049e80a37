use Rattle.std.proofs.Common.{◌≡◌, [], ◌∷◌, refl, ap, ◌∙◌, subst}
use Rattle.std.specs.Prelude.{OnOk}
use Rattle.std.proofs.lemmas.Result.{err_from_is_err_and}
use Rattle.push_base.specs.declared.role.Role.TheVariants as roles
use Rattle.serving.specs.Jobs.{pair_of}
use Rattle.serving.specs.Servers.{ServerState, with_jobs}
use Rattle.serving.proofs.Handing.{front_longer, over_as, over_err, over_then}
use Rattle.serving.proofs.Opening.{enough_twice, jobs_twice}
use Rattle.serving.proofs.server.Server.start_session.Goals as goal

pub returns-in_err-start_reader-clause-started : goal.returns-in_err-start_reader-clause-started
returns-in_err-start_reader-clause-started g c =
    let p = err_from_is_err_and c.from_residual.result c.from_residual.ensures.1 in
    over_err (pair_of c.args.self.now.turns c.args.session) (g.O.Starter.Starter.started c.args.starter.now) (g.O.Starter.Starter.started c.start_reader.new.starter) c.from_residual.result p.0 p.1
    (front_longer ((roles.Reader c.args.session, c.args.self.now.turns) ∷ []) ((roles.Writer c.args.session, c.args.self.now.turns) ∷ []) (g.O.Starter.Starter.started c.args.starter.now) (g.O.Starter.Starter.started c.start_reader.new.starter) c.in_err-start_reader.ensures.started)

pub returns-clause-started : goal.returns-clause-started
returns-clause-started g c =
    let turns : c.start_reader.new.self.turns ≡ c.args.self.now.turns = ap (λ (s : ServerState). s.turns) c.in_ok-start_reader.ensures.ok in
    over_then ((roles.Reader c.args.session, c.args.self.now.turns) ∷ []) ((roles.Writer c.args.session, c.args.self.now.turns) ∷ [])
    (g.O.Starter.Starter.started c.args.starter.now) (g.O.Starter.Starter.started c.start_reader.new.starter) (g.O.Starter.Starter.started c.start_writer.new.starter) c.start_writer.result c.in_ok-start_reader.ensures.started
    (over_as (g.O.Starter.Starter.started c.start_reader.new.starter) (g.O.Starter.Starter.started c.start_writer.new.starter) (roles.Writer c.args.session) (roles.Writer c.args.session) c.start_reader.new.self.turns c.args.self.now.turns c.start_writer.result refl turns c.start_writer.ensures.started)

pub returns-clause-ok : goal.returns-clause-ok
returns-clause-ok g c =
    subst (λ (s : ServerState). OnOk c.start_writer.result (c.start_writer.new.self ≡ s)) (ap (λ (s : ServerState). with_jobs 1 s) c.in_ok-start_reader.ensures.ok ∙ jobs_twice c.args.self.now) c.start_writer.ensures.ok

pub returns-clause-enough : goal.returns-clause-enough
returns-clause-enough g c =
    enough_twice c.start_writer.result c.args.self.now.parts c.start_reader.new.self.parts (ap (λ (s : ServerState). s.parts) c.in_ok-start_reader.ensures.ok) c.start_writer.ensures.enough
