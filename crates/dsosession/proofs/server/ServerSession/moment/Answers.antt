use Rattle.std.proofs.Common.{◌≤◌, ◌∙◌, ap, arith}
use Rattle.push_base.specs.Limits.{max_number}
use Rattle.dsosession.specs.Timing.{reason_of}
use Rattle.dsosession.proofs.server.ServerSession.moment.Goals as goal

pub returns : goal.returns
returns c =
    let told : c.args.now ≤ max_number = omega (arith, c.ranges.now.fits) in
    rw (← c.self.view_is) (c.reason_of.ensures
    ∙ ap (λ silent. reason_of silent c.has_come-idle.result) (c.has_come-silent.ensures ∙ c.silent_from.ensures c.args.now told)
    ∙ ap (reason_of _) (c.has_come-idle.ensures ∙ c.idle_from.ensures c.args.now told))
