use Rattle.configurations.proofs.WorkedLines.{all_lines, without_sessions, listens_twice, feeds_twice}
use Rattle.configurations.proofs.worked_servers.Goals as goal

pub returns-clause-all_lines : goal.returns-clause-all_lines
returns-clause-all_lines c = all_lines

pub returns-clause-without_sessions : goal.returns-clause-without_sessions
returns-clause-without_sessions c = without_sessions

pub returns-clause-listens_twice : goal.returns-clause-listens_twice
returns-clause-listens_twice c = listens_twice

pub returns-clause-feeds_twice : goal.returns-clause-feeds_twice
returns-clause-feeds_twice c = feeds_twice
