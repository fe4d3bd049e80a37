use Rattle.dsosession.proofs.Ends.{earlier-is_deadline}
use Rattle.dsosession.proofs.server.ServerSession.deadline.Goals as goal

pub returns : goal.returns
returns c = rw (← c.self.view_is) (earlier-is_deadline c.self.inside.state.clocks c.args.subscriptions _ _ _ c.earlier.ensures.told c.silent_from.ensures c.idle_from.ensures c.earlier.ensures.comes)
