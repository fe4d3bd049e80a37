use Rattle.script_laws.proofs.Scripts.{turns-are-enough, settles-empty}
use Rattle.script_laws.proofs.settles_empty_both_ways.Goals as goal

pub returns : goal.returns
returns c = record { ends = turns-are-enough; quiet = settles-empty }
