use Rattle.script_laws.proofs.Throughout.{scripts-hold}
use Rattle.script_laws.proofs.scripts_hold_throughout.Goals as goal

pub returns : goal.returns
returns c = record { throughout = scripts-hold }
