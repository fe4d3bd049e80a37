use Rattle.std.proofs.Common.{[], ◌∷◌}
use Rattle.std.proofs.lemmas.Result.{err_from_is_err_and}
use Rattle.hubloops.specs.Jobs.{role_in}
use Rattle.serving.proofs.Handing.{front_none, over_err}
use Rattle.serving.proofs.server.Server.start.Goals as goal

pub returns-in_err-over-clause-started : goal.returns-in_err-over-clause-started
returns-in_err-over-clause-started g c =
    let p = err_from_is_err_and c.from_residual.result c.from_residual.ensures.1 in
    over_err ((role_in c.args.job.work, c.args.job.turns) ∷ []) (g.O.Starter.Starter.started c.args.starter.now) (g.O.Starter.Starter.started c.args.starter.now) c.from_residual.result p.0 p.1
    (front_none ((role_in c.args.job.work, c.args.job.turns) ∷ []) (g.O.Starter.Starter.started c.args.starter.now))
