use Rattle.replay.proofs.event_lines.hub_line.Goals as goal

pub returns-in-At : goal.returns-in-At
returns-in-At c = rw (c.in-At.is, ← c.millis.ensures.value) c.moment_lines.ensures
