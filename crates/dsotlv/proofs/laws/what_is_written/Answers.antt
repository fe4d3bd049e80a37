use Rattle.dsotlv.proofs.DsoLaws.{dso_written}
use Rattle.dsotlv.proofs.NoticeLaws.{writes_what_is_spelled}
use Rattle.dsotlv.proofs.laws.what_is_written.Goals as goal

pub returns-clause-dso : goal.returns-clause-dso
returns-clause-dso c = dso_written

pub returns-clause-notice : goal.returns-clause-notice
returns-clause-notice c = writes_what_is_spelled
