use Rattle.commands.proofs.Following.{conversed}
use Rattle.commands.proofs.subscribe_command.converse.Goals as goal

pub returns-clause-conversed : goal.returns-clause-conversed
returns-clause-conversed g c =
    conversed _ _ _ _ _ _ _ _ _ _ _ _ _ _ _ _ _ _ _ _ _ _ _ _ c.clock-clock.ensures.told c.back_line.ensures.told c.back_wire.ensures.told c.back_clock.ensures.told
    c.back_line.ensures.lines c.back_wire.ensures.wires c.back_clock.ensures.moments
    c.clock-clock.ensures.reads c.back_line.ensures.reads c.back_wire.ensures.reads c.back_clock.ensures.reads c.requires.line_faults
    c.requires.fresh_line c.requires.fresh_wire c.clock-clock.ensures.fresh c.subscribe-outcome.ensures.said
