use Rattle.hubasking.proofs.Standing.{one_asking}
use Rattle.hubasking.proofs.HubCalls.{asked-alike}
use Rattle.hubasking.proofs.Ending.{end-asked}
use Rattle.hubasking.proofs.Calls.{hear-leaves}
use Rattle.hubasking.proofs.Seated.{left-askings}
use Rattle.hubasking.proofs.Sending.{asked-kept}
use Rattle.hubasking.proofs.Refreshing.{follow-ends}
use Rattle.hubasking.proofs.Followed.{followed-behind}
use Rattle.hubasking.proofs.Coming.{more-from}
use Rattle.hubasking.proofs.Doubting.{doubted-from}
use Rattle.hubasking.proofs.GiveMore.{settled-ends}
use Rattle.hubasking.proofs.GiveSettles.{settles-ends}
use Rattle.hubasking.proofs.GiveUndone.{undone}
use Rattle.hubasking.proofs.Staying.{in-kept}
use Rattle.hubasking.proofs.laws.one_asking.Goals as goal

pub returns : goal.returns
returns c = one_asking
