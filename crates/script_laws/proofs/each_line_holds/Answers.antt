use Rattle.script_laws.proofs.Scripts.{holds-after}
use Rattle.script_laws.proofs.each_line_holds.Goals as goal

pub returns : goal.returns
returns c = record { holds = holds-after }
