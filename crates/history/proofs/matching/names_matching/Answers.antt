-- The question asks for records of its own name alone.
use Rattle.history.proofs.AllRecords.{matching-table}
use Rattle.history.proofs.matching.names_matching.Goals as goal

pub returns : goal.returns
returns c = matching-table c.args.question.now c.args.table.now.rows c.at.result.now c.matching_rrs.result c.at.ensures c.matching_rrs.ensures
