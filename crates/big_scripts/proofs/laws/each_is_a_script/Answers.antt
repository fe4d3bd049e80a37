use Rattle.big_scripts.proofs.Grammar.{scripts_are_read}
use Rattle.big_scripts.proofs.laws.each_is_a_script.Goals as goal

pub returns : goal.returns
returns c = scripts_are_read
