use Rattle.hubloops.specs.Calls.{Went}
use Rattle.hubloops.proofs.Answering.{does_go, stands_after}
use Rattle.hublock.proofs.Holding.{adds_going, holds_behind}
use Rattle.hublock.proofs.locked.Locked.gone.Goals as goal

pub returns-clause-call : goal.returns-clause-call
returns-clause-call g c = rw (← c.self.view_is) (does_go c.self.inside.hub c.link_gone_uncounted-answer.new.self c.args.link c.link_gone_uncounted-answer.result c.link_gone_uncounted-answer.ensures.ok c.link_gone_uncounted-answer.ensures.kept c.link_gone_uncounted-answer.ensures.same c.link_gone_uncounted-answer.ensures.asking c.link_gone_uncounted-answer.ensures.asks)

pub invariant_of-self : goal.invariant_of-self
invariant_of-self g c = holds_behind c.self.inside.hub c.link_gone_uncounted-answer.new.self
    (record { changes = c.self.inside.changes.total; heard = c.self.inside.heard.total; moments = c.self.inside.moments.total })
    (record { changes = c.record.new.changes.total; heard = c.record.new.heard.total; moments = c.record.new.moments.total })
    c.counts-before.result c.counts-after.result c.self.inside.made.total c.self.invariant (adds_going c.self.inside.hub.hub c.link_gone_uncounted-answer.new.self.hub c.link_gone_uncounted-answer.result c.link_gone_uncounted-answer.ensures.counts)
    (stands_after (Went c.args.link c.link_gone_uncounted-answer.result) c.self.inside.hub c.link_gone_uncounted-answer.new.self (does_go c.self.inside.hub c.link_gone_uncounted-answer.new.self c.args.link c.link_gone_uncounted-answer.result c.link_gone_uncounted-answer.ensures.ok c.link_gone_uncounted-answer.ensures.kept c.link_gone_uncounted-answer.ensures.same c.link_gone_uncounted-answer.ensures.asking c.link_gone_uncounted-answer.ensures.asks) c.self.invariant.stands)
    c.counts-before.ensures.kept c.counts-after.ensures.kept c.record.ensures.changes c.record.ensures.heard c.record.ensures.moments
