use Rattle.two_hubs.proofs.WholeReading.{are-whole-lines}
use Rattle.two_hubs.proofs.whole_scripts_are_lines.Goals as goal

pub returns : goal.returns
returns c = are-whole-lines
