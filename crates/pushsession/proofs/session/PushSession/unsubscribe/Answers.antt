use Rattle.std.proofs.Common.{sym, subst}
use Rattle.subscr.specs.Asked.{Asked, without}
use Rattle.pushsession.specs.Kept.{Filled, HasEnds}
use Rattle.pushsession.proofs.Ends.{ends_without}
use Rattle.pushsession.proofs.session.PushSession.unsubscribe.Goals as goal

pub invariant_of-self : goal.invariant_of-self
invariant_of-self c =
    let ends = ends_without c.args.id c.self.inside.subscriptions c.self.inside.filled.items c.self.invariant in
    subst (λ (asked : Asked). HasEnds asked c.take_out.new.filled.items) (sym c.unask-question.ensures.others)
    (subst (λ (filled : Filled). HasEnds (without c.args.id c.self.inside.subscriptions) filled) (sym c.take_out.ensures) ends)
