use Rattle.script_laws.proofs.Scripts.{replies-one}
use Rattle.script_laws.proofs.replies_are_one.Goals as goal

pub returns : goal.returns
returns c = record { one = replies-one }
