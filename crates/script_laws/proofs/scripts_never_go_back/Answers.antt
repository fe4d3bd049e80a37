use Rattle.script_laws.proofs.Scripts.{never-go-back}
use Rattle.script_laws.proofs.scripts_never_go_back.Goals as goal

pub returns : goal.returns
returns c = record { never = never-go-back }
