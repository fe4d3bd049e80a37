use Rattle.pushserver.proofs.OtherSessions.{give_changes_one_session}
use Rattle.pushserver.proofs.Replying.{query_is_answered}
use Rattle.pushserver.proofs.Subscribing.{subscribe_is_answered}
use Rattle.pushserver.proofs.promises.AllTold.{nothing_where_all_is_told}
use Rattle.pushserver.proofs.promises.Shown.{nothing_means_all_is_shown}
use Rattle.pushserver.proofs.promises.Outputs.{other_calls_keep_outputs}
use Rattle.pushserver.proofs.laws.calls_keep_promises.Goals as goal

pub returns-clause-nothing : goal.returns-clause-nothing
returns-clause-nothing c = nothing_where_all_is_told

pub returns-clause-shown : goal.returns-clause-shown
returns-clause-shown c = nothing_means_all_is_shown

pub returns-clause-one : goal.returns-clause-one
returns-clause-one c = give_changes_one_session

pub returns-clause-outputs : goal.returns-clause-outputs
returns-clause-outputs c = other_calls_keep_outputs

pub returns-clause-answered : goal.returns-clause-answered
returns-clause-answered c = subscribe_is_answered

pub returns-clause-replied : goal.returns-clause-replied
returns-clause-replied c = query_is_answered
