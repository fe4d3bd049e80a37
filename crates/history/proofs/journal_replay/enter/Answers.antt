-- The homes are those after the entry.
use Rattle.history.proofs.IdleEntries.{entered}
use Rattle.history.proofs.journal_replay.enter.Goals as goal

pub returns-clause-state : goal.returns-clause-state
returns-clause-state c =
    entered c.args.homes.now c.plan_of.new.homes c.apply_held.new.homes c.args.moment c.apply_held.result c.args.entry.now c.in_ok-held.held c.requires.home c.in_ok-held.ensures.state c.in_ok-held.ensures.held c.apply_held.ensures.state
