use Rattle.readable.proofs.Harmless.{shown_is_harmless}
use Rattle.readable.proofs.laws.shown_is_harmless.Goals as goal

pub returns : goal.returns
returns c = shown_is_harmless
