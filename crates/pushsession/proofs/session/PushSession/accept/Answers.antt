use Rattle.std.proofs.Common.{◌∙◌, false, true, ap}
use Rattle.dsosession.specs.SessionStates.{SessionState}
use Rattle.dsosession.specs.Timing.{restarted}
use Rattle.pushsession.specs.Kept.{KeptSession}
use Rattle.pushsession.specs.contracts.session.PushSession.{the_view}
use Rattle.pushsession.proofs.Accepting.{accepts_later}
use Rattle.pushsession.proofs.session.PushSession.accept.Goals as goal

pub returns-clause-ok : goal.returns-clause-ok
returns-clause-ok g c =
    ap (λ (s : SessionState). the_view (record c.self.inside { state = s })) (c.establish.ensures ∙ ap (λ (s : SessionState). record s { established = true }) c.wrote.ensures)
    ∙ ap (λ (s : KeptSession). record s { clocks = restarted false c.args.now s.clocks; established = true }) (c.self.view_is ∙ c.take_up.ensures.session)
    ∙ accepts_later c.args.index.now.rows c.args.now c.args.id c.args.question c.args.self.now _ c.in_ok-hold.ensures.ok
