use Rattle.script_laws.proofs.Scripts.{tell-one-text}
use Rattle.script_laws.proofs.scripts_tell_one_text.Goals as goal

pub returns : goal.returns
returns c = record { one = tell-one-text }
