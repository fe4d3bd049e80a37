use Rattle.hubloops.proofs.runs.read_session.Goals as goal

pub returns-clause-run : goal.returns-clause-run
returns-clause-run g c = (g.G.Gate.state c.read_loop-end.new.gate, c.read_loop-end.ensures.run, c.line_over.ensures)
